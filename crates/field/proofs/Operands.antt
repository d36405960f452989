-- Laws of the refusal that is due of a modulus and its operands.
--
--   passed             a result r with a value says that p is a modulus and the operands are good
--   passed-both        the same of two operands, each below its bound
--   value_tried, balance_tried   number and value of a result are those of the answer
--   answer_passed      where the answer has the number 0, none was due
use Prim.Native.Nat.{ℕ, ◌<◌}
use mathlib.Core.Path.{◌≡◌, refl, sym, ◌∙◌}
use mathlib.Core.Bool.{Bool, true, false, ◌&&◌}
use native.Mathlib.Omega.{arith}
use lib.Dec.{eqb, ltb}
use lib.IntN.{ℤ, pos}
use borrow.Author.Tests.{ltb-true}
use Rattle.std.proofs.Common.{Result, Ok, Err}
use Rattle.algebra.specs.Residues.{pick}
use Rattle.algebra.proofs.Tests.{both_true}
use Rattle.reasons.specs.declared.Reason.{Reason}
use Rattle.reasons.specs.declared.Reason.TheVariants.{BadModulus, BadCoefficient}
use Rattle.moduli.specs.Moduli.{is_modulus}
use Rattle.field.specs.Answers.{or_refused, value, no_value, value_of, balance_of}
use Rattle.field.specs.Tries.{tried}

pub passed : (p : ℕ) (good : Bool) {r : Result (Unit {0}) Reason} → r ≡ tried p good tt → r ≡ Ok tt → (is_modulus p ≡ true) × (good ≡ true)
passed p good e f = go (is_modulus p) good (sym e ∙ f)
  where
    go : (m g : Bool) → pick m (pick g (Ok (tt {0})) (Err BadCoefficient)) (Err BadModulus) ≡ Ok tt → (m ≡ true) × (g ≡ true)
    go true true h = (refl, refl)
    go true false h = absurd cc
    go false g h = absurd cc

pub passed-both : (p x a y b : ℕ) {r : Result (Unit {0}) Reason} → r ≡ tried p (ltb x a && ltb y b) tt → r ≡ Ok tt →
    (is_modulus p ≡ true) × (x < a) × (y < b)
passed-both p x a y b e f =
    let h = passed p (ltb x a && ltb y b) e f in
    let k = both_true (ltb x a) (ltb y b) h.1 in
    (h.0, ltb-true x a k.0, ltb-true y b k.1)

answer_tried : {A B : Type 0} (done : A → B) (refused : ℕ → B) (of : Result A Reason → B) →
    ((v : A) → of (Ok v) ≡ done v) → of (Err BadModulus) ≡ refused 1 → of (Err BadCoefficient) ≡ refused 6 → (p : ℕ) (good : Bool) (v : A) →
    of (tried p good v) ≡ or_refused refused p good (done v)
answer_tried done refused of d one six p good v = go (is_modulus p) good
  where
    go : (m g : Bool) → of (pick m (pick g (Ok v) (Err BadCoefficient)) (Err BadModulus)) ≡ pick (eqb (pick m (pick g 0 6) 1) 0) (done v) (refused (pick m (pick g 0 6) 1))
    go true true = d v
    go true false = six
    go false g = one

pub value_tried : (p : ℕ) (good : Bool) (v : ℕ) → value_of (tried p good v) ≡ or_refused no_value p good (value v)
value_tried p good v = answer_tried value no_value value_of (λ v. refl) refl refl p good v

pub balance_tried : (p : ℕ) (good : Bool) (v : ℤ) →
    balance_of (tried p good v) ≡ or_refused (λ r. record { number = r; value = pos 0 }) p good (record { number = 0; value = v })
balance_tried p good v =
    answer_tried (λ v. record { number = 0; value = v }) (λ r. record { number = r; value = pos 0 }) balance_of (λ v. refl) refl refl p good v

pub answer_passed : {A : Type 0} (number : A → ℕ) (refused : ℕ → A) → ((r : ℕ) → number (refused r) ≡ r) → (p : ℕ) (good : Bool) (v : A) →
    number (or_refused refused p good v) ≡ 0 → (is_modulus p ≡ true) × (good ≡ true)
answer_passed number refused k p good v e = go (is_modulus p) good e
  where
    go : (m g : Bool) → number (pick (eqb (pick m (pick g 0 6) 1) 0) v (refused (pick m (pick g 0 6) 1))) ≡ 0 → (m ≡ true) × (g ≡ true)
    go true true h = (refl, refl)
    go true false h = absurd (omega (arith, k 6))
    go false g h = absurd (omega (arith, k 1))
