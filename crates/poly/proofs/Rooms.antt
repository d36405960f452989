-- Rooms that are filled with zero words.
--
--   all_cleared   a room as long as another, zero from its start on, is the other cleared
use Prim.Native.Nat.{ℕ, ◌-◌}
use mathlib.Core.Path.{◌≡◌, ◌∙◌, ap}
use mathlib.Core.List.{List, ◌++◌}
use native.Mathlib.Nat.{sub-zero}
use lib.ListN.{length, take, replicate}
use Rattle.poly.specs.Words.{cleared}

pub all_cleared : (s₀ s s' : List ℕ) → length s ≡ length s₀ → s' ≡ take 0 s ++ replicate (length s - 0) 0 → s' ≡ cleared s₀
all_cleared s₀ s s' e f = f ∙ ap (λ (n : ℕ). replicate n 0) (sub-zero (length s) ∙ e)
