-- Every call on any arrays ends with one numbered answer (the search for a run: with a part).
--
--   NAME_answered     every argument is allowed, and two outcomes that the contract allows for it are the same. That a call ends is part of
--                     what Rattle checks of every function.
use mathlib.Core.Path.{◌≡◌}
use mathlib.Core.List.{[]}
use Rattle.moduli.proofs.modulus.Reads as modulus
use Rattle.moduli.proofs.is_modulus.Reads as is-modulus
use Rattle.field.proofs.sum.Reads as field-sum
use Rattle.field.proofs.product.Reads as field-product
use Rattle.field.proofs.inverse.Reads as inverse
use Rattle.field.proofs.balanced.Reads as balanced
use Rattle.field.proofs.residue.Reads as residue
use Rattle.moduli.proofs.Determined as moduli
use Rattle.field.proofs.Determined as fields
use Rattle.monomial.proofs.pack.Reads as pack
use Rattle.monomial.proofs.unpack.Reads as unpack
use Rattle.monomial.proofs.Determined as monomials
use Rattle.services.proofs.check.check.Reads as check
use Rattle.services.proofs.profile.profile_of.Reads as profile-of
use Rattle.services.proofs.run.run.Reads as run
use Rattle.services.proofs.Determined as services
use Rattle.sums.proofs.sum.Reads as sum
use Rattle.sums.proofs.difference.Reads as difference
use Rattle.product.proofs.product.Reads as product
use Rattle.sums.proofs.Determined as sums
use Rattle.product.proofs.Determined as products
use Rattle.division.proofs.division.divide.Reads as divide
use Rattle.division.proofs.test.divides.Reads as divides
use Rattle.division.proofs.Determined as divisions
use Rattle.calls.specs.Outcomes.{outcome}
use Rattle.claims.specs.Demands.{Answered}

pub modulus_answered : (κs : _) (x : _) → Answered (modulus.Pre κs x) (modulus.Post κs x) (λ r s. r)
modulus_answered κs x = record { any = moduli.modulus-asks_nothing κs x; one = moduli.modulus-determined κs x }

-- the prime test as every other call with a modulus asks it
pub is_modulus_answered : (κs : _) (x : _) → Answered (is-modulus.Pre κs x) (is-modulus.Post κs x) (λ r s. r)
is_modulus_answered κs x = record { any = moduli.is_modulus-asks_nothing κs x; one = moduli.is_modulus-determined κs x }

pub field_sum_answered : (κs : _) (x : _) → Answered (field-sum.Pre κs x) (field-sum.Post κs x) (λ r s. r)
field_sum_answered κs x = record { any = fields.sum-asks_nothing κs x; one = fields.sum-determined κs x }

pub field_product_answered : (κs : _) (x : _) → Answered (field-product.Pre κs x) (field-product.Post κs x) (λ r s. r)
field_product_answered κs x = record { any = fields.product-asks_nothing κs x; one = fields.product-determined κs x }

pub inverse_answered : (κs : _) (x : _) → Answered (inverse.Pre κs x) (inverse.Post κs x) (λ r s. r)
inverse_answered κs x = record { any = fields.inverse-asks_nothing κs x; one = fields.inverse-determined κs x }

pub balanced_answered : (κs : _) (x : _) → Answered (balanced.Pre κs x) (balanced.Post κs x) (λ r s. r)
balanced_answered κs x = record { any = fields.balanced-asks_nothing κs x; one = fields.balanced-determined κs x }

pub residue_answered : (κs : _) (x : _) → Answered (residue.Pre κs x) (residue.Post κs x) (λ r s. r)
residue_answered κs x = record { any = fields.residue-asks_nothing κs x; one = fields.residue-determined κs x }

pub pack_answered : (κs : _) (x : _) → Answered (pack.Pre κs x) (pack.Post κs x) (λ r s. r)
pack_answered κs x = record { any = monomials.pack-asks_nothing κs x; one = monomials.pack-determined κs x }

pub unpack_answered : (κs : _) (x : _) → Answered (unpack.Pre κs x) (unpack.Post κs x) (λ r s. r)
unpack_answered κs x = record { any = monomials.unpack-asks_nothing κs x; one = monomials.unpack-determined κs x }

pub check_answered : (κs : _) (x : _) → Answered (check.Pre κs x) (check.Post κs x) (λ r s. r)
check_answered κs x = record { any = services.check-asks_nothing κs x; one = services.check-determined κs x }

pub profile_of_answered : (κs : _) (x : _) → Answered (profile-of.Pre κs x) (profile-of.Post κs x) (λ r s. r)
profile_of_answered κs x = record { any = services.profile_of-asks_nothing κs x; one = services.profile_of-determined κs x }

-- the words of the part, and where they lie
pub run_answered : (κs : _) (x : _) → run.Pre κs x × ((r r' : _) (s s' : _) → run.Post κs x r s → run.Post κs x r' s' → (r.now ≡ r'.now) × (r.ref_ptr ≡ r'.ref_ptr))
run_answered κs x = (services.run-asks_nothing κs x, services.run-determined κs x)

pub sum_answered : (κs : _) (x : _) → Answered (sum.Pre κs x) (sum.Post κs x) (λ r s. outcome r s.1.1.1.0.now [] [])
sum_answered κs x = record { any = sums.sum-asks_nothing κs x; one = sums.sum-determined κs x }

pub difference_answered : (κs : _) (x : _) → Answered (difference.Pre κs x) (difference.Post κs x) (λ r s. outcome r s.1.1.1.0.now [] [])
difference_answered κs x = record { any = sums.difference-asks_nothing κs x; one = sums.difference-determined κs x }

pub product_answered : (κs : _) (x : _) → Answered (product.Pre κs x) (product.Post κs x) (λ r s. outcome r s.1.1.1.0.now [] s.1.1.1.1.0.now)
product_answered κs x = record { any = products.product-asks_nothing κs x; one = products.product-determined κs x }

pub divide_answered : (κs : _) (x : _) → Answered (divide.Pre κs x) (divide.Post κs x) (λ r s. outcome r s.1.1.1.0.now s.1.1.1.1.0.now s.1.1.1.1.1.0.now)
divide_answered κs x = record { any = divisions.divide-asks_nothing κs x; one = divisions.divide-determined κs x }

pub divides_answered : (κs : _) (x : _) → Answered (divides.Pre κs x) (divides.Post κs x) (λ r s. outcome r s.1.1.1.0.now [] s.1.1.1.1.0.now)
divides_answered κs x = record { any = divisions.divides-asks_nothing κs x; one = divisions.divides-determined κs x }
