use Prim.Native.Nat.{ℕ, ◌-◌}
use mathlib.Core.Bool.{Bool}
use mathlib.Core.Path.{◌≡◌, ◌∙◌, ap}
use native.Mathlib.Nat.{sub-zero}
use native.Mathlib.Omega.{arith}
use Rattle.algebra.specs.Residues.{first}
use Rattle.poly.specs.Words.{records}
use Rattle.faults.specs.Faults.{faults_of}
use Rattle.faults.proofs.find_faults.Goals as goal

pub returns : goal.returns
unfolding faults_of
returns c =
    let l = c.loop-i in
    let z : l.i ≡ 0 = omega arith in
    let n = records c.args.s.now in
    let all : (t : ℕ → Bool) → first t l.i (n - l.i) ≡ first t 0 n = λ t. ap (λ x. first t x (n - x)) z ∙ ap (first t 0) (sub-zero n) in
    λ d. record { guard = (l.invariant.guard ∙ all _) d; order = (l.invariant.order ∙ all _) d; coef = (l.invariant.coef ∙ all _) d }
