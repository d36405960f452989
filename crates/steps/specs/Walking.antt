-- The walk on words, step by step: what the engine's own functions promise one another. No caller of a public function meets it.
--
--   seen p h         the terms of h, one for each monomial, the greatest first, words read as exponents
--   whole, walk_on   all of the walk, and the walk on from what remains
--   Walking          a walk that has come to record i of the dividend, with n quotient and j remainder terms written
--   RowPut           a quotient term was written, and its products wait in the tree
--   Stepped          what a step promises
use Rattle.std.specs.Prelude.{ℕ, ◌+◌, ◌-◌, ◌*◌, ◌<◌, ◌≤◌, max, ◌≡◌, List, ◌++◌, length, set, Result, IfOk, IfErr}
use Rattle.algebra.specs.Monomials.{Letters, Numbers}
use Rattle.algebra.specs.Orders.{Lex, Rising}
use Rattle.algebra.specs.Polynomials.{term, Poly, times, sorted}
use Rattle.algebra.specs.Walk.{Walked, walk, joined}
use Rattle.reasons.specs.Reasons.{number_of}
use Rattle.reasons.specs.declared.Reason.{Reason}
use Rattle.monomial.specs.Layout.{base}
use Rattle.poly.specs.Words.{records, word_at, term_at, terms, span, poly_of, decoded_poly, Monomial}
use Rattle.tree.specs.Tree.{awaited, Live, Sides}
use Rattle.judges.specs.Judges.{walk_by}
use Rattle.judges.specs.declared.Plan.{Plan}
use Rattle.steps.specs.declared.State.{State}
use Rattle.judges.specs.Plans.{judges_of}
use Rattle.poly.specs.Keys.{key_at}
use Rattle.heads.specs.Remaining.{remaining}

abbrev pub seen : ℕ → Poly Numbers → Poly (Letters 4)
seen p h = decoded_poly base (sorted Rising p h)

-- all of the walk, and a walk on from what remains
abbrev pub whole : Plan → Walked (Letters 4)
whole plan = walk_by plan.p (judges_of plan.f.now plan.g.now plan.judge) (poly_of base plan.f.now) (poly_of base plan.g.now)

abbrev pub walk_on : Plan → ℕ → ℕ → ℕ → Poly (Letters 4) → Walked (Letters 4)
walk_on plan n i j h =
    let g = plan.g.now in
    walk (Lex 4) plan.p (term_at base g 0) (terms base g 1 (records g - 1)) (judges_of plan.f.now g plan.judge) n i j h

pub record Walking (plan : Plan) (q r w : List ℕ) (i n j : ℕ) : Type 0 where
  pub live : Live q plan.g.now w
  pub sides : Sides q plan.g.now plan.p
  pub remainders : plan.judge.remainders ≡ records r
  pub within : i ≤ records plan.f.now
  pub quotient_within : n ≤ records q
  pub remainder_within : j ≤ records r
  pub unwritten : (x : ℕ) → n ≤ x → x < records q → word_at w (records q + x) ≡ 0
  pub idle : records q ≡ 0 → word_at w 1 ≡ 0
  pub monomials : Monomial (remaining plan.p plan.f.now plan.g.now q w i)
  pub quotient_monomials : Monomial (span q 0 n)
  pub remainder_monomials : Monomial (span r 0 j)
  pub fuel : ℕ
  pub enough : max (key_at plan.f.now i) (word_at w 1) ≤ fuel
  pub walked :
      whole plan ≡
      joined (decoded_poly base (span q 0 n)) (decoded_poly base (span r 0 j))
      (walk_on plan fuel n j (seen plan.p (remaining plan.p plan.f.now plan.g.now q w i)))

-- record n of the quotient room is a word and a coef, and what waited before still does
pub record RowPut (g q w : List ℕ) (n word coef k : ℕ) (q' w' : List ℕ) : Type 0 where
  pub written : q' ≡ set (set q (2 * n) word) (2 * n + 1) coef
  pub as_long : length w' ≡ length w
  pub live : Live q' g w'
  pub before : Poly Numbers
  pub after : Poly Numbers
  pub was : awaited q g w 0 (records q) ≡ before ++ after
  pub becomes : awaited q' g w' 0 (records q') ≡ before ++ (times (term word coef) (span g 1 (records g - 1)) ++ after)
  pub others : (x : ℕ) → x < records q → (x ≡ n → ⊥) → word_at w' (records q + x) ≡ word_at w (records q + x)
  pub lower : word_at w' 1 < k

-- the walk goes on, with no key as great as before, or its reply is the number of the reason
pub record Stepped (plan : Plan) (q r w : List ℕ) (k : ℕ) (q' r' w' : List ℕ) (end : Result State Reason) : Type 0 where
  pub quotient_long : length q' ≡ length q
  pub remainder_long : length r' ≡ length r
  pub work_long : length w' ≡ length w
  pub stops : IfErr end (λ reason. (whole plan).reply ≡ number_of reason)
  pub goes_on : IfOk end (λ s. Walking plan q' r' w' s.next s.quotient s.remainder)
  pub lower : IfOk end (λ s. max (key_at plan.f.now s.next) (word_at w' 1) < k)
