use Prim.Native.Nat.{ℕ, ◌+◌, ◌<◌}
use mathlib.Core.Path.{◌≡◌, ◌∙◌, ap}
use mathlib.Core.List.{List, [], ◌∷◌}
use native.Mathlib.Omega.{arith}
use lib.ListN.{get_or}
use Rattle.algebra.specs.Monomials.{Letters, exponent, degree}
use Rattle.algebra.specs.Polynomials.{largest}
use Rattle.monomial.specs.Layout.{base, exponents_of}
use Rattle.poly.specs.Words.{records, word_at, terms, poly_of}
use Rattle.poly.specs.Profiles.{measure_of}
use Rattle.poly.proofs.Measures.{chunk_word, largest_more}
use Rattle.poly.proofs.profile.measure.Goals as goal

pub loop-word-preserved : goal.loop-word-preserved
loop-word-preserved c =
    let l = c.loop-word.invariant in
    let s = c.args.s.now in
    let i = c.loop-word.word-index in
    let within : i < records s = omega (arith, c.loop-word-test.true, c.as_chunks.ensures.front_len) in
    let word : get_or (get_or c.as_chunks.result.0.now i []) 0 0 ≡ word_at s i =
    ap (λ (rs : List (List ℕ)). get_or (get_or rs i []) 0 0) c.as_chunks.ensures.front ∙ chunk_word s (records s) i within (omega arith) in
    let of_word = λ (w : (Letters 4).Mon → ℕ). ap (λ (m : ℕ). w (exponents_of 16 4 m)) word in
    let x = c.exponent-ex in
    let y = c.exponent-ey in
    let z = c.exponent-ez in
    let t = c.exponent-et in
    let sum : x.result + y.result + z.result + t.result ≡ degree 4 (exponents_of 16 4 (word_at s i)) =
    omega (arith, x.ensures, y.ensures, z.ensures, t.ensures, of_word (degree 4)) in
    record {
      x = largest_more (exponent 4 0) s i (x.ensures ∙ of_word (exponent 4 0)) l.x c.max-x.ensures;
      y = largest_more (exponent 4 1) s i (y.ensures ∙ of_word (exponent 4 1)) l.y c.max-y.ensures;
      z = largest_more (exponent 4 2) s i (z.ensures ∙ of_word (exponent 4 2)) l.z c.max-z.ensures;
      t = largest_more (exponent 4 3) s i (t.ensures ∙ of_word (exponent 4 3)) l.t c.max-t.ensures;
      total = largest_more (degree 4) s i sum l.total c.max-total.ensures;
    }

pub returns : goal.returns
unfolding measure_of poly_of
returns c =
    let l = c.loop-word.invariant in
    let s = c.args.s.now in
    let all : c.loop-word.word-index ≡ records s = omega (arith, c.loop-word-test.false, c.loop-word.auto.word-index-end, c.as_chunks.ensures.front_len) in
    let of_all = λ (w : (Letters 4).Mon → ℕ). ap (λ (n : ℕ). largest w (terms base s 0 n)) all in
    λ d. record {
      terms = c.as_chunks.ensures.front_len d;
      exponents = (l.x ∙ of_all (exponent 4 0)) d ∷ (l.y ∙ of_all (exponent 4 1)) d ∷ (l.z ∙ of_all (exponent 4 2)) d ∷ (l.t ∙ of_all (exponent 4 3)) d ∷ [];
      total = (l.total ∙ of_all (degree 4)) d;
    }
