-- The laws hold of the number as it is read back, which is the number.
use Rattle.std.proofs.Common.{◌≡◌, ◌∙◌, sym, ap, ℕ, ◌-◌, ◌%◌, to_z, of_z}
use mir.Syntax.{w32}
use mir.Val.{SFits}
use mir.ValLaws.{to_z-of_z}
use lib.IntN.{ℤ}
use Rattle.field.specs.Answers.{residue_value}
use Rattle.field.proofs.Signs.{residue_from_zero, residue_below_zero}
use Rattle.field.proofs.balances.residue_mod.Goals as goal

read : (p : ℕ) (n : ℤ) → SFits w32 n → residue_value p (to_z w32 (of_z w32 n)) ≡ residue_value p n
read p n h = ap (λ (z : ℤ). residue_value p z) (to_z-of_z w32 n h)

pub returns-then-n-lt0 : goal.returns-then-n-lt0
returns-then-n-lt0 c =
    let p = c.args.p in
    c.neg_mod.ensures
    ∙ ap (λ (x : ℕ). (p - x % p) % p) (c.from.ensures ∙ c.unsigned_abs.ensures.value)
    ∙ sym (residue_below_zero p (to_z w32 (of_z w32 c.args.n)) c.if-n-lt0.true)
    ∙ read p c.args.n c.ranges.n

pub returns-else-n-lt0 : goal.returns-else-n-lt0
returns-else-n-lt0 c =
    let p = c.args.p in
    sym (residue_from_zero p (to_z w32 (of_z w32 c.args.n)) c.if-n-lt0.false) ∙ read p c.args.n c.ranges.n
