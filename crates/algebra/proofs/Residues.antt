-- Laws of `Same`: numbers modulo p.
--
--   same_refl, same_sym, same_trans, same_eq   an equivalence; equal numbers are the same
--   same_by, same_witness     a and b are the same just where a + u · p ≡ b + v · p for some u and v: a form that omega reads
--   same_mod, same_multiple   a % p is the same as a; a multiple of p is the same as 0
--   same_add, same_mul        sums and products of the same numbers are the same
--   same_cancel               what is added on both sides may go
--   same_minus                a + (p − 1) · a is the same as 0: p − 1 is −1
--   same_below                numbers below p that are the same are equal
--   same_decided              sameness is decided
use Prim.Native.Nat.{ℕ, ◌+◌, ◌-◌, ◌*◌, ◌/◌, ◌%◌, ◌<◌}
use mathlib.Core.Path.{◌≡◌, refl, sym, ◌∙◌, ap}
use native.Mathlib.Nat.{mod-mod, mod-eq_of_lt, add-mul-mod_self_right, div-add-mod'}
use native.Mathlib.Decide.{ℕ_discrete}
use native.Mathlib.Omega.{arith}
use Rattle.algebra.specs.Residues.{Same}

module _ {p : ℕ} where
  pub same_eq : {a b : ℕ} → a ≡ b → Same p a b
  same_eq e = record { same = ap (λ x. x % p) e }

  pub same_refl : {a : ℕ} → Same p a a
  same_refl = record { same = refl }

  pub same_sym : {a b : ℕ} → Same p a b → Same p b a
  same_sym e = record { same = sym e.same }

  pub same_trans : {a b c : ℕ} → Same p a b → Same p b c → Same p a c
  same_trans e f = record { same = e.same ∙ f.same }

  pub same_by : {a b : ℕ} (u v : ℕ) → a + u * p ≡ b + v * p → Same p a b
  same_by {a} {b} u v e =
      record { same = sym (add-mul-mod_self_right a u p) ∙ ap (λ x. x % p) e ∙ add-mul-mod_self_right b v p }

  pub same_witness : {a b : ℕ} → Same p a b → a + b / p * p ≡ b + a / p * p
  same_witness {a} {b} e = omega (arith, div-add-mod' a p, div-add-mod' b p, e.same)

  pub same_mod : (a : ℕ) → Same p (a % p) a
  same_mod a = record { same = mod-mod a p }

  pub same_multiple : (k : ℕ) → Same p (k * p) 0
  same_multiple k = same_by 0 k (omega arith)

  pub same_add : {a b c d : ℕ} → Same p a b → Same p c d → Same p (a + c) (b + d)
  same_add {a} {b} {c} {d} e f = same_by (b / p + d / p) (a / p + c / p) (omega (arith, same_witness e, same_witness f))

  pub same_mul-left : (c : ℕ) {a b : ℕ} → Same p a b → Same p (c * a) (c * b)
  same_mul-left c {a} {b} e =
      same_by (c * (b / p)) (c * (a / p)) (omega (arith, ap (λ (x : ℕ). c * x) (same_witness e)))

  pub same_mul : {a b c d : ℕ} → Same p a b → Same p c d → Same p (a * c) (b * d)
  same_mul {a} {b} {c} {d} e f =
      same_trans (same_mul-left a f) (same_trans (same_eq (omega arith)) (same_trans (same_mul-left d e) (same_eq (omega arith))))

  pub same_cancel : (c : ℕ) {a b : ℕ} → Same p (a + c) (b + c) → Same p a b
  same_cancel c {a} {b} e = same_by ((b + c) / p) ((a + c) / p) (omega (arith, same_witness e))

  pub same_minus : (a : ℕ) → 0 < p → Same p (a + (p - 1) * a) 0
  same_minus a h =
      let e : p - 1 + 1 ≡ p = omega arith in
      same_trans (same_eq (omega (arith, ap (λ (x : ℕ). a * x) e))) (same_multiple a)

  pub same_below : {a b : ℕ} → a < p → b < p → Same p a b → a ≡ b
  same_below h k e = sym (mod-eq_of_lt h) ∙ e.same ∙ mod-eq_of_lt k

  pub same_decided : (a b : ℕ) → Dec (Same p a b)
  same_decided a b = elim (ℕ_discrete (a % p) (b % p)) [ yes e ↦ yes (record { same = e }) | no n ↦ no (λ s. n s.same) ]
