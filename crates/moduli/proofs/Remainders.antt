-- Euclid's algorithm on a modulus p and a number a, with the factors of a that give its remainders.
--
--   Remainders p a r s t u    r and s are neighbouring remainders, s the lesser; a · t and a · u are the same as they, modulo p
--   remainders-start          p and a are the first two
--   remainders-step           one division on
--   remainders-inverse        where s is at most 1, it is 1, and u is the inverse of a
use Prim.Native.Nat.{ℕ, ◌+◌, ◌-◌, ◌*◌, ◌/◌, ◌%◌, ◌<◌, ◌≤◌, ◌∣◌}
use mathlib.Core.Path.{◌≡◌, ap}
use mathlib.Core.Logic.{inl, inr}
use native.Mathlib.Nat.{mod-lt, div-add-mod', dvd-mod_iff, dvd-zero, dvd_refl, le_of_dvd}
use native.Mathlib.Decide.{ℕ_discrete}
use native.Mathlib.Omega.{arith}
use Rattle.algebra.specs.Residues.{Same, Prime, inverse}
use Rattle.algebra.proofs.Residues.{same_eq, same_sym, same_trans, same_mod, same_multiple, same_add, same_mul-left, same_cancel}
use Rattle.algebra.proofs.Primes.{inverse_unique}

pub record Remainders (p a r s t u : ℕ) : Type 0 where
  pub top : r ≤ p
  pub high : 1 < r
  pub falls : s < r
  pub coprime : (d : ℕ) → d ∣ r → d ∣ s → d ≡ 1
  pub below : t < p
  pub next_below : u < p
  pub same : Same p (a * t) r
  pub next_same : Same p (a * u) s

pub remainders-start : {p a : ℕ} → Prime p → 0 < a → a < p → Remainders p a p a 0 1
remainders-start {p} {a} P h k =
    let w : 2 ≤ p = P.two in
    record {
      top = omega arith;
      high = w;
      falls = k;
      coprime = λ d x y. elim (P.only d x) [ inl e ↦ e | inr e ↦ absurd (let l : d ≤ a = le_of_dvd h y in omega arith) ];
      below = omega arith;
      next_below = w;
      same = same_sym (same_trans (same_eq (omega arith)) (same_trans (same_multiple 1) (same_eq (omega arith))));
      next_same = same_eq (omega arith);
    }

-- t − q · u modulo p, in numbers that are not negative
abbrev pub next_factor : ℕ → ℕ → ℕ → ℕ → ℕ
next_factor p q t u = (t + (p - q * u % p)) % p

factor_step : {p : ℕ} (a q t u r s r' : ℕ) → 0 < p → Same p (a * t) r → Same p (a * u) s → q * s + r' ≡ r → Same p (a * next_factor p q t u) r'
factor_step {p} a q t u r s r' h e f g =
    let w : ℕ = q * u % p in
    let k : w < p = mod-lt (q * u) h in
    let l : p - w + w ≡ p = omega arith in
    let back : Same p (q * s) (a * w) =
    same_trans (same_mul-left q (same_sym f)) (same_trans (same_eq (omega arith)) (same_mul-left a (same_sym (same_mod (q * u))))) in
    let round : a * (t + (p - w)) + a * w ≡ a * t + a * p = omega (arith, ap (λ (x : ℕ). a * x) l) in
    same_cancel (q * s)
    (same_trans (same_add (same_mul-left a (same_mod (t + (p - w)))) back)
    (same_trans (same_eq round) (same_trans (same_add e (same_multiple a)) (same_eq (omega arith)))))

pub remainders-step : {p a r s t u : ℕ} → Remainders p a r s t u → 1 < s → Remainders p a s (r % s) u (next_factor p (r / s) t u)
remainders-step {p} {a} {r} {s} {t} {u} R h =
    let k : 0 < p = let x = R.top in let y = R.high in omega arith in
    record {
      top = omega arith;
      high = h;
      falls = mod-lt r (omega arith);
      coprime = λ d x y. R.coprime d ((dvd-mod_iff d x).0 y) x;
      below = R.next_below;
      next_below = mod-lt _ k;
      same = R.next_same;
      next_same = factor_step a (r / s) t u r s (r % s) k R.same R.next_same (div-add-mod' r s);
    }

pub remainders-inverse : {p a r s t u : ℕ} → Prime p → Remainders p a r s t u → s ≤ 1 → u ≡ inverse p a
remainders-inverse {p} {a} {r} {s} {t} {u} P R h =
    let e : s ≡ 1 =
    elim (ℕ_discrete s 0) [
      | yes z ↦ absurd (let o : r ≡ 1 = R.coprime r (dvd_refl r) (rw z (dvd-zero r)) in omega arith)
      | no n ↦ omega arith
    ] in
    inverse_unique P a R.next_below (same_trans R.next_same (same_eq e))
