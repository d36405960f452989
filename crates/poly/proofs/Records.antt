-- Records of two words in an array that is written.
--
--   put w i a b          w with the words a and b in record i
--   put-length           it is as long
--   put-word, put-coef   what record i then is
--   put_other            the other records are as they were
use Prim.Native.Nat.{ℕ, ◌+◌, ◌*◌, ◌%◌, ◌<◌}
use mathlib.Core.Path.{◌≡◌, sym, ◌∙◌, ap}
use mathlib.Core.List.{List}
use native.Mathlib.Omega.{arith}
use lib.ListN.{length, set, length-set}
use lib.Seq.{get_or-set_same, get_or-set_other}
use Rattle.poly.specs.Words.{word_at, coef_at}

abbrev pub put : List ℕ → ℕ → ℕ → ℕ → List ℕ
put w i a b = set (set w (2 * i) a) (2 * i + 1) b

module _ (w : List ℕ) (i a b : ℕ) where
  pub put-length : length (put w i a b) ≡ length w
  put-length = simp length-set

  pub put-word : 2 * i + 1 < length w → word_at (put w i a b) i ≡ a
  put-word h =
      let here : 2 * i < length w = omega arith in
      get_or-set_other (set w (2 * i) a) (2 * i + 1) (2 * i) b 0 (λ e. omega arith) ∙ get_or-set_same w (2 * i) a 0 here

  pub put-coef : 2 * i + 1 < length w → coef_at (put w i a b) i ≡ b
  put-coef h =
      let here : 2 * i + 1 < length (set w (2 * i) a) = simp length-set h in
      get_or-set_same (set w (2 * i) a) (2 * i + 1) b 0 here

  pub put_other : (j : ℕ) → (j ≡ i → ⊥) → (word_at (put w i a b) j ≡ word_at w j) × (coef_at (put w i a b) j ≡ coef_at w j)
  put_other j n = (
    get_or-set_other (set w (2 * i) a) (2 * i + 1) (2 * j) b 0 (λ e. odd j i e) ∙ get_or-set_other w (2 * i) (2 * j) a 0 (λ e. n (omega arith)),
    get_or-set_other (set w (2 * i) a) (2 * i + 1) (2 * j + 1) b 0 (λ e. n (omega arith)) ∙ get_or-set_other w (2 * i) (2 * j + 1) a 0 (λ e. odd i j (sym e)),
  )
    where
      odd : (x y : ℕ) → 2 * x ≡ 2 * y + 1 → ⊥
      odd x y e = omega (arith, ap (λ (z : ℕ). z % 2) e)
