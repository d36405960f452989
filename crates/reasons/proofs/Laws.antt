-- Laws of reasons and their numbers.
--
--   number_positive   no reason has the number 0
--   same_reason       reasons with the same number are equal
--   same_answer       answers without a value are equal where their numbers are
--   number_small      no number is over 12
--   named_once        a number names one reason, or none
use Rattle.std.proofs.Common.{ℕ, zero, suc, ◌<◌, ◌≤◌, ◌≡◌, ◌⊎◌, inl, inr, List, [], ◌∷◌, refl, sym, ◌∙◌, ap, arith, Result, Ok, Err}
use Rattle.reasons.specs.Reasons.{number_of, reply_of, Named}
use Rattle.reasons.specs.declared.NoReason.{NoReason}
use Rattle.reasons.specs.declared.Reason.{Reason}
use Rattle.reasons.specs.declared.Reason.TheVariants.{BadModulus, OddLength, TooLong, BadMonomial, BadOrder, BadCoefficient, ZeroDivisor, ShortWork, BigExponent, NoRoom, NoRemainderRoom, NotDivisible}

pub number_positive : (reason : Reason) → 0 < number_of reason
number_positive BadModulus = omega arith
number_positive OddLength = omega arith
number_positive TooLong = omega arith
number_positive BadMonomial = omega arith
number_positive BadOrder = omega arith
number_positive BadCoefficient = omega arith
number_positive ZeroDivisor = omega arith
number_positive ShortWork = omega arith
number_positive BigExponent = omega arith
number_positive NoRoom = omega arith
number_positive NoRemainderRoom = omega arith
number_positive NotDivisible = omega arith

-- the reason at a place of a list
abbrev nth : List Reason → ℕ → Reason
nth [] n = NotDivisible
nth (reason ∷ reasons) zero = reason
nth (reason ∷ reasons) (suc n) = nth reasons n

abbrev reason_of : ℕ → Reason
reason_of =
    nth
    (BadModulus ∷ BadModulus ∷ OddLength ∷ TooLong ∷ BadMonomial ∷ BadOrder ∷ BadCoefficient ∷ ZeroDivisor ∷ ShortWork ∷ BigExponent ∷ NoRoom ∷ NoRemainderRoom ∷ [])

numbered : (reason : Reason) → reason_of (number_of reason) ≡ reason
numbered BadModulus = refl
numbered OddLength = refl
numbered TooLong = refl
numbered BadMonomial = refl
numbered BadOrder = refl
numbered BadCoefficient = refl
numbered ZeroDivisor = refl
numbered ShortWork = refl
numbered BigExponent = refl
numbered NoRoom = refl
numbered NoRemainderRoom = refl
numbered NotDivisible = refl

pub same_reason : (a b : Reason) → number_of a ≡ number_of b → a ≡ b
same_reason a b e = sym (numbered a) ∙ ap reason_of e ∙ numbered b

pub same_answer : (r s : Result (Unit {0}) Reason) → reply_of r ≡ reply_of s → r ≡ s
same_answer (Ok _) (Ok _) e = refl
same_answer (Ok _) (Err b) e = absurd (omega (arith, number_positive b))
same_answer (Err a) (Ok _) e = absurd (omega (arith, number_positive a))
same_answer (Err a) (Err b) e = ap (λ (x : Reason). Err x) (same_reason a b e)

pub number_small : (reason : Reason) → number_of reason ≤ 12
number_small BadModulus = omega arith
number_small OddLength = omega arith
number_small TooLong = omega arith
number_small BadMonomial = omega arith
number_small BadOrder = omega arith
number_small BadCoefficient = omega arith
number_small ZeroDivisor = omega arith
number_small ShortWork = omega arith
number_small BigExponent = omega arith
number_small NoRoom = omega arith
number_small NoRemainderRoom = omega arith
number_small NotDivisible = omega arith

unnamed : (n : ℕ) (reason : Reason) → number_of reason ≡ n → (n ≡ 0) ⊎ (12 < n) → ⊥
unnamed n reason e (inl z) = omega (arith, number_positive reason)
unnamed n reason e (inr h) = omega (arith, number_small reason)

pub named_once : (n : ℕ) (r s : Result Reason NoReason) → Named n r → Named n s → r ≡ s
named_once n (Ok a) (Ok b) e f = ap (λ (x : Reason). Ok x) (same_reason a b (e ∙ sym f))
named_once n (Ok a) (Err b) e f = absurd (unnamed n a e f.1)
named_once n (Err a) (Ok b) e f = absurd (unnamed n b f e.1)
named_once n (Err a) (Err b) e f = ap (λ (x : ℕ). Err (record { 0 = x })) (e.0 ∙ sym f.0)
