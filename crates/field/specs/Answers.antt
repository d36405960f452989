-- What each field operation answers: a number, 0 or that of a refusal, and a value, 0 beside a refusal.
-- Refusal 1 comes first, where p is not a modulus; then 6, where an operand is not what it has to be.
--
--   refusal_of p good        the refusal that is due of a modulus and operands, 0 where none is
--   or_refused               an answer, or the refusal that is due in its place
--   value, no_value          reply 0 with a value; a refusal with the value 0
--   value_of, balance_of     an answer as a result, as number and value
--   field_sum_of p a b       the answer of the sum: a + b modulo p
--   field_product_of p a b   of the product: a · b modulo p
--   inverse_of p a           of the inverse: the x from 1 to p − 1 with a · x ≡ 1 modulo p; 0 has none
--   balanced_value p c       the balanced value of the residue c: c where 2c is at most p, else c − p
--   balanced_of p c          the answer with it
--   residue_value p n        the residue of the whole number n, from 0 to p − 1
--   residue_of p n           the answer with it; 6 refuses none
use Rattle.std.specs.Prelude.{ℕ, ◌+◌, ◌-◌, ◌*◌, ◌%◌, Bool, true, ◌&&◌, eqb, leb, ltb, ℤ, pos, negsuc, Result, Ok, Err}
use Rattle.std.proofs.Math.IntN.{sub_ℕ}
use Rattle.algebra.specs.Residues.{inverse, pick}
use Rattle.moduli.specs.Moduli.{is_modulus}
use Rattle.reasons.specs.Reasons.{number_of}
use Rattle.reasons.specs.declared.Reason.{Reason}
use Rattle.field.specs.declared.Value.{Value}
use Rattle.field.specs.declared.Balance.{Balance}

-- 1 where p is not a modulus, and then 6 where the operands are not good
abbrev pub refusal_of : ℕ → Bool → ℕ
refusal_of p good = pick (is_modulus p) (pick good 0 6) 1

-- the answer v, or in its place the refusal that is due
abbrev pub or_refused : {A : Type 0} → (ℕ → A) → ℕ → Bool → A → A
or_refused refused p good v = pick (eqb (refusal_of p good) 0) v (refused (refusal_of p good))

-- Answers with a value from 0 to p − 1

-- reply 0, and v
abbrev pub value : ℕ → Value
value v = record { number = 0; value = v }

-- refusal r, and 0
abbrev pub no_value : ℕ → Value
no_value r = record { number = r; value = 0 }

abbrev pub value_of : Result ℕ Reason → Value
value_of (Ok v) = value v
value_of (Err reason) = no_value (number_of reason)

-- both operands below p: the remainder of a + b
unfoldable pub field_sum_of : ℕ → ℕ → ℕ → Value
field_sum_of p a b = or_refused no_value p (ltb a p && ltb b p) (value ((a + b) % p))

-- both operands below p: the remainder of a · b
unfoldable pub field_product_of : ℕ → ℕ → ℕ → Value
field_product_of p a b = or_refused no_value p (ltb a p && ltb b p) (value (a * b % p))

-- an operand from 1 to p − 1: its inverse
unfoldable pub inverse_of : ℕ → ℕ → Value
inverse_of p a = or_refused no_value p (ltb 0 a && ltb a p) (value (inverse p a))

-- The balanced value, and back

-- c where 2c is at most p, and c − p otherwise
unfoldable pub balanced_value : ℕ → ℕ → ℤ
balanced_value p c = pick (leb (2 * c) p) (pos c) (sub_ℕ c p)

abbrev pub balance_of : Result ℤ Reason → Balance
balance_of (Ok v) = record { number = 0; value = v }
balance_of (Err reason) = record { number = number_of reason; value = pos 0 }

-- an operand below p: its balanced value; 0 beside a refusal
unfoldable pub balanced_of : ℕ → ℕ → Balance
balanced_of p c =
    or_refused (λ r. record { number = r; value = pos 0 }) p (ltb c p)
    (record { number = 0; value = balanced_value p c })

-- Of n it is the remainder. Of −(n + 1), written `negsuc n`, it is p less the remainder of n + 1, and 0 where that is p.
unfoldable pub residue_value : ℕ → ℤ → ℕ
residue_value p (pos n) = n % p
residue_value p (negsuc n) = (p - (n + 1) % p) % p

-- any whole number: its residue
unfoldable pub residue_of : ℕ → ℤ → Value
residue_of p n = or_refused no_value p true (value (residue_value p n))
