-- `monomial::try_pack` meets its contract: one test for four exponents.
use mathlib.Core.Path.{◌≡◌, ◌∙◌, sym}
use mathlib.Core.Bool.{true, false}
use borrow.Author.Tests.{le-leb, lt-leb}
use Rattle.algebra.specs.Monomials.{Letters}
use Rattle.algebra.specs.Residues.{pick}
use Rattle.monomial.specs.Layout.{fits, word_of}
use Rattle.field.specs.Answers.{value, no_value}
use Rattle.monomial.proofs.Fields.{merged, merged-test}
use Rattle.monomial.proofs.try_pack.Goals as goal
use Rattle.monomial.proofs.try_pack.Goals.{Else-x-y-gt-LARGEST}

pub returns-then-x-y-gt-LARGEST : goal.returns-then-x-y-gt-LARGEST
returns-then-x-y-gt-LARGEST c =
    let m : (Letters 4).Mon = (c.args.x, (c.args.y, (c.args.z, (c.args.t, tt)))) in
    let e : false ≡ fits 16 4 m = sym (lt-leb (merged 15 4 m) 32767 c.if-x-y-gt-LARGEST.true) ∙ merged-test 15 4 m in
    λ i. pick (e i) (value (word_of 16 4 m)) (no_value 4)

fit : (c : Else-x-y-gt-LARGEST) → fits 16 4 (c.args.x, (c.args.y, (c.args.z, (c.args.t, tt)))) ≡ true
fit c =
    let m : (Letters 4).Mon = (c.args.x, (c.args.y, (c.args.z, (c.args.t, tt)))) in
    sym (merged-test 15 4 m) ∙ le-leb (merged 15 4 m) 32767 c.if-x-y-gt-LARGEST.false

pub word-requires : goal.word-requires
word-requires c = fit c

pub returns : goal.returns
returns c = rw (fit c.before) (λ i. value (c.word.ensures i))
