-- What is claimed of the calls on single numbers and words, and of the profile: each reply is given exactly when its rule says so.
--
--   modulus-told             the prime test: 1 where p is not a prime in its range
--   is_modulus-told          the same test as every other call with a modulus asks it: no where p is not a prime in its range
--   field_sum-told, field_product-told, inverse-told, balanced-told, residue-told   1 first, then 6 for an operand that is not good
--   pack-told, unpack-told   4 for an exponent above 32,767, and for a set guard bit
--   profile_told             the report beside a profile is that of the check
use Prim.Native.Nat.{ℕ}
use mathlib.Core.Path.{◌≡◌, refl, sym, ◌∙◌, ap}
use mathlib.Core.Bool.{Bool, true, false, ◌&&◌, false≢true}
use mathlib.Core.Logic.{◌↔◌}
use native.Mathlib.Omega.{arith}
use lib.Dec.{eqb, ltb}
use lib.IntN.{pos}
use Rattle.algebra.specs.Residues.{pick}
use Rattle.moduli.specs.Moduli.{is_modulus, modulus_of}
use Rattle.field.specs.Answers.{refusal_of, or_refused, no_value, field_sum_of, field_product_of, inverse_of, balanced_of, residue_of}
use Rattle.moduli.proofs.modulus.Reads as modulus
use Rattle.moduli.proofs.is_modulus.Reads as is-modulus
use Rattle.field.proofs.sum.Reads as field-sum
use Rattle.field.proofs.product.Reads as field-product
use Rattle.field.proofs.inverse.Reads as inverse
use Rattle.field.proofs.balanced.Reads as balanced
use Rattle.field.proofs.residue.Reads as residue
use Rattle.field.specs.declared.Value.{Value}
use Rattle.field.specs.declared.Balance.{Balance}
use Rattle.monomial.specs.Layout.{base, fits, is_monomial}
use Rattle.monomial.specs.declared.Exponents.{Exponents}
use Rattle.monomial.proofs.pack.Reads as pack
use Rattle.monomial.proofs.unpack.Reads as unpack
use Rattle.services.specs.Services.{check_of, profile_of}
use Rattle.services.specs.declared.profile.Profiled.{Profiled}
use Rattle.services.proofs.profile.profile_of.Reads as profile-of
use Rattle.claims.specs.Demands.{Single}

-- The refusal that is due

single : {n p : ℕ} {good : Bool} → n ≡ refusal_of p good → Single n p good
single {n} {p} {good} e =
    record {
      one = (λ k. one (is_modulus p) good refl (sym e ∙ k), λ m. e ∙ ap (λ (t : Bool). pick t (pick good 0 6) 1) m);
      six = (λ k. six (is_modulus p) good refl refl (sym e ∙ k), λ m. e ∙ (λ i. pick (m.0 i) (pick (m.1 i) 0 6) 1));
      done = (λ k. done (is_modulus p) good refl refl (sym e ∙ k), λ m. e ∙ (λ i. pick (m.0 i) (pick (m.1 i) 0 6) 1));
    }
  where
    one : (m g : Bool) → is_modulus p ≡ m → pick {A = ℕ} m (pick g 0 6) 1 ≡ 1 → is_modulus p ≡ false
    one false g d k = d
    one true true d k = absurd (omega arith)
    one true false d k = absurd (omega arith)

    six : (m g : Bool) → is_modulus p ≡ m → good ≡ g → pick {A = ℕ} m (pick g 0 6) 1 ≡ 6 → (is_modulus p ≡ true) × (good ≡ false)
    six false g d h k = absurd (omega arith)
    six true true d h k = absurd (omega arith)
    six true false d h k = (d, h)

    done : (m g : Bool) → is_modulus p ≡ m → good ≡ g → pick {A = ℕ} m (pick g 0 6) 1 ≡ 0 → (is_modulus p ≡ true) × (good ≡ true)
    done false g d h k = absurd (omega arith)
    done true true d h k = (d, h)
    done true false d h k = absurd (omega arith)

-- the number of an answer, whatever its value
number_of : {A : Type 0} (number : A → ℕ) (refused : ℕ → A) (v : A) → number v ≡ 0 → ((r : ℕ) → number (refused r) ≡ r) → (p : ℕ) (good : Bool) → number (or_refused refused p good v) ≡ refusal_of p good
number_of number refused v z r p good = go (is_modulus p) good
  where
    go : (m g : Bool) → number (pick (eqb (pick m (pick g 0 6) 1) 0) v (refused (pick m (pick g 0 6) 1))) ≡ pick m (pick g 0 6) 1
    go false g = r 1
    go true true = z
    go true false = r 6

abbrev told : Value → ℕ
told v = v.number

-- The field operations

-- both operands are residues
pub field_sum-told : (κs : _) (x : _) (t : _) (s : _) → field-sum.Post κs x t s →
    let p = x.0 in
    let a = x.1.0 in
    let b = x.1.1.0 in
    Single t.number p (ltb a p && ltb b p)
unfolding field_sum_of
field_sum-told κs x t s post = single (ap told post ∙ number_of told no_value _ refl (λ r. refl) x.0 (ltb x.1.0 x.0 && ltb x.1.1.0 x.0))

pub field_product-told : (κs : _) (x : _) (t : _) (s : _) → field-product.Post κs x t s →
    let p = x.0 in
    let a = x.1.0 in
    let b = x.1.1.0 in
    Single t.number p (ltb a p && ltb b p)
unfolding field_product_of
field_product-told κs x t s post = single (ap told post ∙ number_of told no_value _ refl (λ r. refl) x.0 (ltb x.1.0 x.0 && ltb x.1.1.0 x.0))

-- the operand is 1 to p − 1
pub inverse-told : (κs : _) (x : _) (t : _) (s : _) → inverse.Post κs x t s →
    let p = x.0 in
    let a = x.1.0 in
    Single t.number p (ltb 0 a && ltb a p)
unfolding inverse_of
inverse-told κs x t s post = single (ap told post ∙ number_of told no_value _ refl (λ r. refl) x.0 (ltb 0 x.1.0 && ltb x.1.0 x.0))

pub balanced-told : (κs : _) (x : _) (t : _) (s : _) → balanced.Post κs x t s →
    let p = x.0 in
    let c = x.1.0 in
    Single t.number p (ltb c p)
unfolding balanced_of
balanced-told κs x t s post =
    single (ap (λ (v : Balance). v.number) post ∙ number_of (λ (v : Balance). v.number) (λ r. record { number = r; value = pos 0 }) _ refl (λ r. refl) x.0 (ltb x.1.0 x.0))

-- any signed number is good
pub residue-told : (κs : _) (x : _) (t : _) (s : _) → residue.Post κs x t s → Single t.number x.0 true
unfolding residue_of
residue-told κs x t s post = single (ap told post ∙ number_of told no_value _ refl (λ r. refl) x.0 true)

-- The prime test answers the reply alone.
pub modulus-told : (κs : _) (x : _) (t : _) (s : _) → modulus.Post κs x t s → (t ≡ 1) ↔ (is_modulus x.0 ≡ false)
unfolding modulus_of
modulus-told κs x t s post = (λ e. failed (is_modulus x.0) refl (sym post ∙ e), λ m. post ∙ ap (λ (b : Bool). pick b 0 1) m)
  where
    failed : (m : Bool) → is_modulus x.0 ≡ m → pick {A = ℕ} m 0 1 ≡ 1 → is_modulus x.0 ≡ false
    failed true d k = absurd (omega arith)
    failed false d k = d

-- Every other call with a modulus asks it so.
pub is_modulus-told : (κs : _) (x : _) (t : _) (s : _) → is-modulus.Post κs x t s → (t ≡ false) ↔ (is_modulus x.0 ≡ false)
is_modulus-told κs x t s post = (λ e. sym post ∙ e, λ m. post ∙ m)

-- Packing and unpacking

-- 4 where the test fails
four : {A : Type 0} (number : A → ℕ) (v refused : A) → number v ≡ 0 → number refused ≡ 4 → (test : Bool) → (number (pick test v refused) ≡ 4) ↔ (test ≡ false)
four number v refused z r true = (λ e. absurd (omega (arith, z)), λ e. absurd (false≢true (sym e)))
four number v refused z r false = (λ e. refl, λ e. r)

pub pack-told : (κs : _) (x : _) (t : _) (s : _) → pack.Post κs x t s → (t.number ≡ 4) ↔ (fits 16 4 (x.0, (x.1.0, (x.1.1.0, (x.1.1.1.0, tt)))) ≡ false)
pack-told κs x t s post =
    let d = four told _ _ refl refl (fits 16 4 (x.0, (x.1.0, (x.1.1.0, (x.1.1.1.0, tt))))) in
    (λ e. d.0 (sym (ap told post) ∙ e), λ e. ap told post ∙ d.1 e)

pub unpack-told : (κs : _) (x : _) (t : _) (s : _) → unpack.Post κs x t s → (t.number ≡ 4) ↔ (is_monomial base x.0 ≡ false)
unpack-told κs x t s post =
    let number : Exponents → ℕ = λ v. v.number in
    let d = four number _ _ refl refl (is_monomial base x.0) in
    (λ e. d.0 (sym (ap number post) ∙ e), λ e. ap number post ∙ d.1 e)

-- The profile

pub profile_told : (κs : _) (x : _) (t : _) (s : _) → profile-of.Post κs x t s → t.report ≡ check_of x.0 x.1.0.now
unfolding profile_of
profile_told κs x t s post = ap (λ (v : Profiled). v.report) post
