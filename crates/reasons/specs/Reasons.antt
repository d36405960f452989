-- The replies without a result, and their numbers in RULES Replies.
--
--   number_of reason   the number that a report tells
--   reply_of r         the number of an answer: 0 where there is a result
--   Named n r          r is the reason with the number n, or an error with an n that is 0 or over 12
use Rattle.std.specs.Prelude.{◌≡◌, ℕ, ◌<◌, ◌⊎◌, Result, Ok, Err, MatchResult}
use Rattle.reasons.specs.declared.Reason.{Reason}
use Rattle.reasons.specs.declared.Reason.TheVariants.{BadModulus, OddLength, TooLong, BadMonomial, BadOrder, BadCoefficient, ZeroDivisor, ShortWork, BigExponent, NoRoom, NoRemainderRoom, NotDivisible}
use Rattle.reasons.specs.declared.NoReason.{NoReason}

abbrev pub number_of : Reason → ℕ
number_of BadModulus = 1
number_of OddLength = 2
number_of TooLong = 3
number_of BadMonomial = 4
number_of BadOrder = 5
number_of BadCoefficient = 6
number_of ZeroDivisor = 7
number_of ShortWork = 8
number_of BigExponent = 9
number_of NoRoom = 10
number_of NoRemainderRoom = 11
number_of NotDivisible = 12

abbrev pub reply_of : {A : Type 0} → Result A Reason → ℕ
reply_of (Ok v) = 0
reply_of (Err reason) = number_of reason

abbrev pub Named : ℕ → Result Reason NoReason → Type 0
Named n r = MatchResult r (λ reason. number_of reason ≡ n) (λ e. (e.0 ≡ n) × ((n ≡ 0) ⊎ (12 < n)))
