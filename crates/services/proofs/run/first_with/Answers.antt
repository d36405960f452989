-- `services::run::first_with` meets its contract.
use Rattle.std.proofs.Common.{rules, tests, ℕ, Bool, ◌≡◌, ◌∙◌, ap, arith, true, false}
use native.Mathlib.Nat.{sub-zero}
use Rattle.std.proofs.lemmas.Iterator.{first_from_Range}
use Rattle.algebra.specs.Residues.{first}
use Rattle.poly.specs.Words.{records, word_at}
use Rattle.services.specs.Searches.{within}
use Rattle.services.specs.Services.{has_power}
use Rattle.services.proofs.Parts.{found_first}
use Rattle.services.proofs.run.first_with.Goals as goal

pub returns : goal.returns
returns c =
    let s = c.args.s.now in
    let t : ℕ → Bool = λ i. has_power c.args.power (word_at s i) in
    found_first t 0 (records s) (omega arith) c.find.result
    (first_from_Range _ _ _ _ (λ i. t i ≡ true) (λ i. t i ≡ false) c.find.ensures.ran (λ x q k. search (rules, tests)) (λ x q k. search (rules, tests)))
    ∙ ap (λ n. within (first t 0 n) (records s)) (sub-zero (records s))
