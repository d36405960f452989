-- The whole walk on words: what the engine's own functions promise one another. No caller of a public function meets it.
--
--   Fresh            rooms and work in which a walk may start
--   Enough           what the growing tree promises
--   Wrote, Ran       what the whole loop promises
use Rattle.std.specs.Prelude.{ℕ, ◌*◌, ◌^◌, ◌<◌, ◌≤◌, ◌≡◌, List, [], ◌⊎◌, length, Result, IfOk}
use Rattle.algebra.specs.Walk.{stopped, joined}
use Rattle.reasons.specs.Reasons.{reply_of}
use Rattle.reasons.specs.declared.Reason.{Reason}
use Rattle.monomial.specs.Layout.{base}
use Rattle.poly.specs.Words.{records, word_at, coef_at, span, decoded_poly, Monomial}
use Rattle.growth.specs.Growth.{Grown}
use Rattle.judges.specs.declared.Plan.{Plan}
use Rattle.steps.specs.declared.State.{State}
use Rattle.steps.specs.Walking.{whole}

-- the rooms and the work, in which a walk may start: the records of the quotient room may be rows, and the work is long enough
pub record Fresh (plan : Plan) (q r w : List ℕ) : Type 0 where
  pub quotients : plan.judge.quotients ≡ records q
  pub remainders : plan.judge.remainders ≡ records r
  pub long : 4 * records q ≤ length w
  pub few : records q < 2 ^ 32
  pub small : (x : ℕ) → x < records q → (word_at q x < 2 ^ 63) × (coef_at q x < plan.p)

-- A tree of n rows has m rows afterwards, one that is not taken among them as far as the room goes.
pub record Enough (n taken room : ℕ) (w w' : List ℕ) (m : ℕ) : Type 0 where
  pub more : n ≤ m
  pub within : m ≤ room
  pub free : taken ≤ n → taken < room → taken < m
  pub grown : ((m ≡ n) × (w' ≡ w)) ⊎ ((0 < n) × Grown n m w w')

-- what a walk that came to its end has written in its rooms
pub record Wrote (plan : Plan) (q r : List ℕ) (s : State) : Type 0 where
  pub quotient_within : s.quotient ≤ records q
  pub remainder_within : s.remainder ≤ records r
  pub quotient_monomials : Monomial (span q 0 s.quotient)
  pub remainder_monomials : Monomial (span r 0 s.remainder)
  pub ends :
      whole plan ≡ joined (decoded_poly base (span q 0 s.quotient)) (decoded_poly base (span r 0 s.remainder)) (stopped 0 [])

pub record Ran (plan : Plan) (q r w q' r' w' : List ℕ) (end : Result State Reason) : Type 0 where
  pub quotient_long : length q' ≡ length q
  pub remainder_long : length r' ≡ length r
  pub work_long : length w' ≡ length w
  pub replies : (whole plan).reply ≡ reply_of end
  pub wrote : IfOk end (λ s. Wrote plan q' r' s)
