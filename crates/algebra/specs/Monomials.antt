-- Monomials: what can be multiplied, compared for equality, and divided.
--
--   Monomials       a kind of monomials, with the laws of their product
--   Letters k       products of powers of k letters, exponents of any size
--   exponent v m    the exponent of letter v (0 the first) in m
--   degree m        the sum of the exponents of m
--   Numbers         the whole numbers, multiplied by adding them
use Rattle.std.specs.Prelude.{ℕ, zero, suc, ◌+◌, ◌-◌, ◌≤◌, ◌≡◌, refl}
use Rattle.std.proofs.Common.{ap, add_comm, add_assoc, add_left_cancel, zero-add, arith}
use Rattle.std.proofs.Math.Decide.{ℕ_discrete, dec_le}

pub record Monomials : Type 1 where
  pub Mon : Type 0
  pub one : Mon
  pub mul : Mon → Mon → Mon
  pub one_mul : (a : Mon) → mul one a ≡ a
  pub mul_comm : (a b : Mon) → mul a b ≡ mul b a
  pub mul_assoc : (a b c : Mon) → mul (mul a b) c ≡ mul a (mul b c)
  pub mul_cancel : (a b c : Mon) → mul a b ≡ mul a c → b ≡ c
  pub decide : (a b : Mon) → Dec (a ≡ b)
  pub quotient : (a b : Mon) → Dec ((q : Mon) × (mul a q ≡ b))

-- The whole numbers

abbrev pub number_quotient : (a b : ℕ) → Dec (a ≤ b) → Dec ((q : ℕ) × (a + q ≡ b))
number_quotient a b (yes h) = yes (b - a, omega arith)
number_quotient a b (no h) = no (λ e. h (let f : a + e.0 ≡ b = e.1 in omega arith))

abbrev pub Numbers : Monomials
Numbers =
    record {
      Mon = ℕ;
      one = 0;
      mul = ◌+◌;
      one_mul = zero-add;
      mul_comm = add_comm;
      mul_assoc = add_assoc;
      mul_cancel = λ a b c e. add_left_cancel a e;
      decide = ℕ_discrete;
      quotient = λ a b. number_quotient a b (dec_le a b);
    }

-- Products of letters: pairs, nested to the right, of the exponents

-- the only monomial in no letters
abbrev pub constant : Monomials
constant =
    record {
      Mon = Unit {0};
      one = tt;
      mul = λ a b. tt;
      one_mul = λ a. refl;
      mul_comm = λ a b. refl;
      mul_assoc = λ a b c. refl;
      mul_cancel = λ a b c e. refl;
      decide = λ a b. yes refl;
      quotient = λ a b. yes (tt, refl);
    }

module _ (K : Monomials) where
  abbrev pub pair_decide : (a b : ℕ × K.Mon) → Dec (a.0 ≡ b.0) → Dec (a.1 ≡ b.1) → Dec (a ≡ b)
  pair_decide a b (yes e) (yes f) = yes (λ i. (e i, f i))
  pair_decide a b (yes e) (no n) = no (λ g. n (ap (λ x. x.1) g))
  pair_decide a b (no n) f = no (λ g. n (ap (λ x. x.0) g))

  abbrev pub pair_product : ℕ × K.Mon → ℕ × K.Mon → ℕ × K.Mon
  pair_product a b = (a.0 + b.0, K.mul a.1 b.1)

  abbrev pub pair_quotient : (a b : ℕ × K.Mon) → Dec (a.0 ≤ b.0) → Dec ((q : K.Mon) × (K.mul a.1 q ≡ b.1)) → Dec ((q : ℕ × K.Mon) × (pair_product a q ≡ b))
  pair_quotient a b (yes h) (yes r) =
      let e : a.0 + (b.0 - a.0) ≡ b.0 = omega arith in
      yes ((b.0 - a.0, r.0), λ i. (e i, r.1 i))
  pair_quotient a b (yes h) (no n) = no (λ q. n (q.0.1, ap (λ x. x.1) q.1))
  pair_quotient a b (no n) r =
      no
      (λ q. n
      (let e : a.0 + q.0.0 ≡ b.0 = ap (λ x. x.0) q.1 in
      omega arith))

-- the monomials of K with one letter more, in front
abbrev pub with_letter : Monomials → Monomials
with_letter K =
    record {
      Mon = ℕ × K.Mon;
      one = (0, K.one);
      mul = pair_product K;
      one_mul = λ a i. (zero-add a.0 i, K.one_mul a.1 i);
      mul_comm = λ a b i. (add_comm a.0 b.0 i, K.mul_comm a.1 b.1 i);
      mul_assoc = λ a b c i. (add_assoc a.0 b.0 c.0 i, K.mul_assoc a.1 b.1 c.1 i);
      mul_cancel = λ a b c e i. (add_left_cancel a.0 (ap (λ x. x.0) e) i, K.mul_cancel a.1 b.1 c.1 (ap (λ x. x.1) e) i);
      decide = λ a b. pair_decide K a b (ℕ_discrete a.0 b.0) (K.decide a.1 b.1);
      quotient = λ a b. pair_quotient K a b (dec_le a.0 b.0) (K.quotient a.1 b.1);
    }

abbrev pub Letters : ℕ → Monomials
Letters zero = constant
Letters (suc k) = with_letter (Letters k)

abbrev pub exponent : (k : ℕ) → ℕ → (Letters k).Mon → ℕ
exponent zero v m = 0
exponent (suc k) zero m = m.0
exponent (suc k) (suc v) m = exponent k v m.1

abbrev pub degree : (k : ℕ) → (Letters k).Mon → ℕ
degree zero m = 0
degree (suc k) m = m.0 + degree k m.1
