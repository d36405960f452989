-- Properties of every monomial of a polynomial.
--
--   all_map                   a property that follows from another
--   all_append                of a sum
--   negated_all, signed_all   of −f, and of f or −f
use Prim.Native.Nat.{ℕ}
use mathlib.Core.Bool.{Bool, true, false}
use mathlib.Core.List.{[], ◌∷◌, ◌++◌}
use Rattle.algebra.specs.Monomials.{Monomials}
use Rattle.algebra.specs.Polynomials.{Poly, negated, signed, All}

module _ {K : Monomials} {P Q : K.Mon → Type 0} where
  pub all_map : ((m : K.Mon) → P m → Q m) → (f : Poly K) → All P f → All Q f
  all_map h [] a = tt
  all_map h (u ∷ f) a = (h u.mon a.0, all_map h f a.1)

pub all_append : {K : Monomials} (P : K.Mon → Type 0) (f g : Poly K) → All P f → All P g → All P (f ++ g)
all_append P [] g a b = b
all_append P (u ∷ f) g a b = (a.0, all_append P f g a.1 b)

module _ {K : Monomials} (P : K.Mon → Type 0) (p : ℕ) where
  pub negated_all : (f : Poly K) → All P f → All P (negated p f)
  negated_all [] a = tt
  negated_all (u ∷ f) a = (a.0, negated_all f a.1)

  pub signed_all : (minus : Bool) (f : Poly K) → All P f → All P (signed p minus f)
  signed_all true f a = negated_all f a
  signed_all false f a = a
