-- `services::profile::profile_of` meets its contract.
use Rattle.std.proofs.Common.{◌∙◌, sym, ap}
use Rattle.algebra.specs.Residues.{pick}
use Rattle.poly.specs.Profiles.{measure_of}
use Rattle.services.specs.Services.{no_profile}
use Rattle.services.proofs.Parts.{profiled, zero_profile}
use Rattle.services.proofs.profile.profile_of.Goals as goal

pub returns-then-is_done : goal.returns-then-is_done
returns-then-is_done c =
    profiled _ _ _ _ c.check-report.ensures
    (c.measure-profile.ensures ∙ ap (λ b. pick b (measure_of c.args.s.now) no_profile) (sym c.if-is_done.true ∙ c.is_done.ensures))

pub returns-else-is_done : goal.returns-else-is_done
returns-else-is_done c =
    let e = c.default-profile.ensures in
    profiled _ _ _ _ c.check-report.ensures (zero_profile _ e.0 e.1.0 e.1.1 ∙ ap (λ b. pick b (measure_of c.args.s.now) no_profile) (sym c.if-is_done.false ∙ c.is_done.ensures))
