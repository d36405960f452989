-- `monomial::exponent` meets its contract: a letter's field, counted from the bottom of the word.
use mathlib.Core.Path.{◌∙◌, sym}
use Prim.Native.Nat.{◌/◌, ◌^◌, ◌*◌, ◌-◌}
use native.Mathlib.Omega.{arith}
use lib.Bits.{and_mask}
use Rattle.monomial.proofs.Fields.{exponent_field}
use Rattle.monomial.proofs.exponent.Goals as goal

pub returns : goal.returns
returns c =
    and_mask (c.args.word / 2 ^ (16 * (3 - c.args.letter))) 16
    ∙ sym (exponent_field 16 4 c.args.word c.args.letter c.ranges.word.fits (omega arith))
