-- Laws of tests: values that are true or false.
--
--   never          no test both passes and fails
--   both_true      what a test with `&&` says
--   both           two tests that pass, passed together
--   neither        what a test with `||` that failed says
--   both_swap      of four tests passed together, the second and the third exchanged
--   same_test      two tests of which each passes where the other does are one
use mathlib.Core.Path.{◌≡◌, refl, sym, ◌∙◌}
use mathlib.Core.Bool.{Bool, true, false, false≢true, ◌&&◌, ◌||◌}

pub never : {b : Bool} → b ≡ true → b ≡ false → ⊥
never e f = false≢true (sym f ∙ e)

pub both_true : (a b : Bool) → (a && b) ≡ true → (a ≡ true) × (b ≡ true)
both_true true b e = (refl, e)
both_true false b e = absurd (false≢true e)

pub both : {a b : Bool} → a ≡ true → b ≡ true → (a && b) ≡ true
both e f = λ i. e i && f i

pub neither : (a b : Bool) → (a || b) ≡ false → (a ≡ false) × (b ≡ false)
neither true b e = absurd (never refl e)
neither false b e = (refl, e)

pub both_swap : (a b c d : Bool) → (a && b && (c && d)) ≡ (a && c && (b && d))
both_swap true b true d = refl
both_swap true true false d = refl
both_swap true false false d = refl
both_swap false b c d = refl

pub same_test : (a b : Bool) → (a ≡ true → b ≡ true) → (b ≡ true → a ≡ true) → a ≡ b
same_test true b f g = sym (f refl)
same_test false true f g = g refl
same_test false false f g = refl
