-- Results, and the number and the value that each stands for.
--
--   same_result   two results with the same number and the same value are the same
use Prim.Native.Nat.{ℕ}
use mathlib.Core.Path.{◌≡◌, refl, sym, ◌∙◌, ap}
use mathlib.Core.List.{List, [], ◌∷◌}
use lib.ListN.{get_or}
use Rattle.std.proofs.Common.{Result, Ok, Err, map}
use Rattle.reasons.specs.declared.Reason.{Reason}
use Rattle.reasons.specs.declared.Reason.TheVariants.{BadModulus, OddLength, TooLong, BadMonomial, BadOrder, BadCoefficient, ZeroDivisor, ShortWork, BigExponent, NoRoom, NoRemainderRoom, NotDivisible}
use Rattle.field.specs.declared.Value.{Value}
use Rattle.field.specs.Answers.{value_of}

reasons : List Reason
reasons =
    BadModulus ∷ OddLength ∷ TooLong ∷ BadMonomial ∷ BadOrder ∷ BadCoefficient ∷ ZeroDivisor ∷ ShortWork ∷ BigExponent ∷ NoRoom ∷ NoRemainderRoom
    ∷ NotDivisible ∷ []

-- the result with a number and a value
result_of : Value → Result ℕ Reason
result_of v = get_or (Ok v.value ∷ map Err reasons) v.number (Ok v.value)

read_back : (r : Result ℕ Reason) → result_of (value_of r) ≡ r
unfolding result_of reasons
read_back (Ok v) = refl
read_back (Err BadModulus) = refl
read_back (Err OddLength) = refl
read_back (Err TooLong) = refl
read_back (Err BadMonomial) = refl
read_back (Err BadOrder) = refl
read_back (Err BadCoefficient) = refl
read_back (Err ZeroDivisor) = refl
read_back (Err ShortWork) = refl
read_back (Err BigExponent) = refl
read_back (Err NoRoom) = refl
read_back (Err NoRemainderRoom) = refl
read_back (Err NotDivisible) = refl

pub same_result : (r r' : Result ℕ Reason) → value_of r ≡ value_of r' → r ≡ r'
same_result r r' e = sym (read_back r) ∙ ap result_of e ∙ read_back r'
