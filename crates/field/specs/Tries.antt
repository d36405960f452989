-- What the parts of a field operation promise one another. No caller of a public function meets it.
--
--   tried p good v   v, or the reason of the refusal that is due of a modulus and operands
use Rattle.std.specs.Prelude.{ℕ, Bool, Result, Ok, Err}
use Rattle.algebra.specs.Residues.{pick}
use Rattle.moduli.specs.Moduli.{is_modulus}
use Rattle.reasons.specs.declared.Reason.{Reason}
use Rattle.reasons.specs.declared.Reason.TheVariants.{BadModulus, BadCoefficient}

abbrev pub tried : {A : Type 0} → ℕ → Bool → A → Result A Reason
tried p good v = pick (is_modulus p) (pick good (Ok v) (Err BadCoefficient)) (Err BadModulus)
