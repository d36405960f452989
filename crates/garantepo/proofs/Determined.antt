-- Every exported function takes anything and has one outcome: the contract is the one that the check generates from the source, so that
-- a theorem here fails when a contract says less.
--
--   NAME-asks_nothing    every argument is allowed
--   NAME-determined      two outcomes that the contract allows for the same arguments are equal: the answer, and each word of the
--                        rooms and of the work array
use mathlib.Core.Path.{◌≡◌, sym, ◌∙◌}
use mathlib.Core.List.{[]}
use Rattle.calls.specs.Outcomes.{outcome}
use Rattle.garantepo.proofs.garantepo_check.Reads as garantepo-check
use Rattle.garantepo.proofs.garantepo_profile_of.Reads as garantepo-profile-of
use Rattle.garantepo.proofs.garantepo_run.Reads as garantepo-run
use Rattle.garantepo.proofs.garantepo_sum.Reads as garantepo-sum
use Rattle.garantepo.proofs.garantepo_difference.Reads as garantepo-difference
use Rattle.garantepo.proofs.garantepo_product.Reads as garantepo-product
use Rattle.garantepo.proofs.garantepo_divide.Reads as garantepo-divide
use Rattle.garantepo.proofs.garantepo_divides.Reads as garantepo-divides
use Rattle.garantepo.proofs.garantepo_field_sum.Reads as garantepo-field-sum
use Rattle.garantepo.proofs.garantepo_field_product.Reads as garantepo-field-product
use Rattle.garantepo.proofs.garantepo_field_inverse.Reads as garantepo-field-inverse
use Rattle.garantepo.proofs.garantepo_residue.Reads as garantepo-residue
use Rattle.garantepo.proofs.garantepo_balanced.Reads as garantepo-balanced
use Rattle.garantepo.proofs.garantepo_pack.Reads as garantepo-pack
use Rattle.garantepo.proofs.garantepo_unpack.Reads as garantepo-unpack

pub garantepo_check-asks_nothing : (κs : _) (a : _) → garantepo-check.Pre κs a
garantepo_check-asks_nothing κs a = tt

pub garantepo_check-determined : (κs : _) (a : _) (r r' : _) (s s' : _) → garantepo-check.Post κs a r s → garantepo-check.Post κs a r' s' → r ≡ r'
garantepo_check-determined κs a r r' s s' p q = p ∙ sym q

pub garantepo_profile_of-asks_nothing : (κs : _) (a : _) → garantepo-profile-of.Pre κs a
garantepo_profile_of-asks_nothing κs a = tt

pub garantepo_profile_of-determined : (κs : _) (a : _) (r r' : _) (s s' : _) → garantepo-profile-of.Post κs a r s → garantepo-profile-of.Post κs a r' s' → r ≡ r'
garantepo_profile_of-determined κs a r r' s s' p q = p ∙ sym q

pub garantepo_run-asks_nothing : (κs : _) (a : _) → garantepo-run.Pre κs a
garantepo_run-asks_nothing κs a = tt

pub garantepo_run-determined : (κs : _) (a : _) (r r' : _) (s s' : _) → garantepo-run.Post κs a r s → garantepo-run.Post κs a r' s' → r ≡ r'
garantepo_run-determined κs a r r' s s' p q = p ∙ sym q

pub garantepo_sum-asks_nothing : (κs : _) (a : _) → garantepo-sum.Pre κs a
garantepo_sum-asks_nothing κs a = tt

pub garantepo_sum-determined :
    (κs : _) (a : _) (r r' : _) (s s' : _) →
    garantepo-sum.Post κs a r s →
    garantepo-sum.Post κs a r' s' →
    outcome r s.1.1.1.0.now [] [] ≡ outcome r' s'.1.1.1.0.now [] []
garantepo_sum-determined κs a r r' s s' p q = p ∙ sym q

pub garantepo_difference-asks_nothing : (κs : _) (a : _) → garantepo-difference.Pre κs a
garantepo_difference-asks_nothing κs a = tt

pub garantepo_difference-determined :
    (κs : _) (a : _) (r r' : _) (s s' : _) →
    garantepo-difference.Post κs a r s →
    garantepo-difference.Post κs a r' s' →
    outcome r s.1.1.1.0.now [] [] ≡ outcome r' s'.1.1.1.0.now [] []
garantepo_difference-determined κs a r r' s s' p q = p ∙ sym q

pub garantepo_product-asks_nothing : (κs : _) (a : _) → garantepo-product.Pre κs a
garantepo_product-asks_nothing κs a = tt

pub garantepo_product-determined :
    (κs : _) (a : _) (r r' : _) (s s' : _) →
    garantepo-product.Post κs a r s →
    garantepo-product.Post κs a r' s' →
    outcome r s.1.1.1.0.now [] s.1.1.1.1.0.now ≡ outcome r' s'.1.1.1.0.now [] s'.1.1.1.1.0.now
garantepo_product-determined κs a r r' s s' p q = p ∙ sym q

pub garantepo_divide-asks_nothing : (κs : _) (a : _) → garantepo-divide.Pre κs a
garantepo_divide-asks_nothing κs a = tt

pub garantepo_divide-determined :
    (κs : _) (a : _) (r r' : _) (s s' : _) →
    garantepo-divide.Post κs a r s →
    garantepo-divide.Post κs a r' s' →
    outcome r s.1.1.1.0.now s.1.1.1.1.0.now s.1.1.1.1.1.0.now ≡ outcome r' s'.1.1.1.0.now s'.1.1.1.1.0.now s'.1.1.1.1.1.0.now
garantepo_divide-determined κs a r r' s s' p q = p ∙ sym q

pub garantepo_divides-asks_nothing : (κs : _) (a : _) → garantepo-divides.Pre κs a
garantepo_divides-asks_nothing κs a = tt

pub garantepo_divides-determined :
    (κs : _) (a : _) (r r' : _) (s s' : _) →
    garantepo-divides.Post κs a r s →
    garantepo-divides.Post κs a r' s' →
    outcome r s.1.1.1.0.now [] s.1.1.1.1.0.now ≡ outcome r' s'.1.1.1.0.now [] s'.1.1.1.1.0.now
garantepo_divides-determined κs a r r' s s' p q = p ∙ sym q

pub garantepo_field_sum-asks_nothing : (κs : _) (a : _) → garantepo-field-sum.Pre κs a
garantepo_field_sum-asks_nothing κs a = tt

pub garantepo_field_sum-determined : (κs : _) (a : _) (r r' : _) (s s' : _) → garantepo-field-sum.Post κs a r s → garantepo-field-sum.Post κs a r' s' → r ≡ r'
garantepo_field_sum-determined κs a r r' s s' p q = p ∙ sym q

pub garantepo_field_product-asks_nothing : (κs : _) (a : _) → garantepo-field-product.Pre κs a
garantepo_field_product-asks_nothing κs a = tt

pub garantepo_field_product-determined : (κs : _) (a : _) (r r' : _) (s s' : _) → garantepo-field-product.Post κs a r s → garantepo-field-product.Post κs a r' s' → r ≡ r'
garantepo_field_product-determined κs a r r' s s' p q = p ∙ sym q

pub garantepo_field_inverse-asks_nothing : (κs : _) (a : _) → garantepo-field-inverse.Pre κs a
garantepo_field_inverse-asks_nothing κs a = tt

pub garantepo_field_inverse-determined : (κs : _) (a : _) (r r' : _) (s s' : _) → garantepo-field-inverse.Post κs a r s → garantepo-field-inverse.Post κs a r' s' → r ≡ r'
garantepo_field_inverse-determined κs a r r' s s' p q = p ∙ sym q

pub garantepo_residue-asks_nothing : (κs : _) (a : _) → garantepo-residue.Pre κs a
garantepo_residue-asks_nothing κs a = tt

pub garantepo_residue-determined : (κs : _) (a : _) (r r' : _) (s s' : _) → garantepo-residue.Post κs a r s → garantepo-residue.Post κs a r' s' → r ≡ r'
garantepo_residue-determined κs a r r' s s' p q = p ∙ sym q

pub garantepo_balanced-asks_nothing : (κs : _) (a : _) → garantepo-balanced.Pre κs a
garantepo_balanced-asks_nothing κs a = tt

pub garantepo_balanced-determined : (κs : _) (a : _) (r r' : _) (s s' : _) → garantepo-balanced.Post κs a r s → garantepo-balanced.Post κs a r' s' → r ≡ r'
garantepo_balanced-determined κs a r r' s s' p q = p ∙ sym q

pub garantepo_pack-asks_nothing : (κs : _) (a : _) → garantepo-pack.Pre κs a
garantepo_pack-asks_nothing κs a = tt

pub garantepo_pack-determined : (κs : _) (a : _) (r r' : _) (s s' : _) → garantepo-pack.Post κs a r s → garantepo-pack.Post κs a r' s' → r ≡ r'
garantepo_pack-determined κs a r r' s s' p q = p ∙ sym q

pub garantepo_unpack-asks_nothing : (κs : _) (a : _) → garantepo-unpack.Pre κs a
garantepo_unpack-asks_nothing κs a = tt

pub garantepo_unpack-determined : (κs : _) (a : _) (r r' : _) (s s' : _) → garantepo-unpack.Post κs a r s → garantepo-unpack.Post κs a r' s' → r ≡ r'
garantepo_unpack-determined κs a r r' s s' p q = p ∙ sym q
