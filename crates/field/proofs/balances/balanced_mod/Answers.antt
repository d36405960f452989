use Prim.Native.Nat.{suc, ◌-◌, ◌*◌}
use mathlib.Core.Path.{◌≡◌, sym, ◌∙◌, ap}
use native.Mathlib.Omega.{arith}
use borrow.Author.Tests.{le-leb, lt-leb}
use lib.IntN.{ℤ, pos, negsuc, ◌-ℤ◌}
use mir.Syntax.{w32}
use mir.Val.{SFits, to_z}
use mir.ValLaws.{to_z_pos, to_z-of_z}
use Rattle.field.specs.Answers.{balanced_value}
use Rattle.field.proofs.Signs.{subtracted, negated}
use Rattle.field.proofs.balances.balanced_mod.Goals as goal

pub returns-then-c-p : goal.returns-then-c-p
unfolding balanced_value
returns-then-c-p c = rw (le-leb (2 * c.args.c) c.args.p (omega arith)) (to_z_pos w32 c.args.c (omega arith))

pub returns-else-c-p : goal.returns-else-c-p
unfolding balanced_value
returns-else-c-p c =
    let p = c.args.p in
    let x = c.args.c in
    -- c − p as the code computes it
    let difference : pos 0 -ℤ to_z w32 (p - x) ≡ negsuc (p - suc x) = ap (λ (z : ℤ). pos 0 -ℤ z) (to_z_pos w32 (p - x) (omega arith)) ∙ negated _ _ c.requires.1 in
    let fits : SFits w32 (pos 0 -ℤ to_z w32 (p - x)) = rw difference (record { sfits = omega arith }) in
    rw (lt-leb (2 * x) p (omega arith)) (to_z-of_z w32 _ fits ∙ difference ∙ sym (subtracted _ _ c.requires.1))
