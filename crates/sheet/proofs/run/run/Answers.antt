use Rattle.std.proofs.Common.{ℕ, ◌<◌, ◌≡◌, true, List, length, get_or}
use Rattle.std.proofs.lemmas.List.Elements.{All-get_or}
use Rattle.std.proofs.lemmas.List.Sums.{AllPass-from_list_all}
use Rattle.sheet.specs.declared.cases.Case.{Case}
use Rattle.sheet.specs.Cases.{fits, Fits, AllFit}
use Rattle.sheet.proofs.run.run.Goals as goal

one_of : (cases : List Case) (i : ℕ) (d : Case) → i < length cases → AllFit cases → Fits (get_or cases i d)
one_of cases i d h all =
    record { passed = All-get_or (λ case. fits case ≡ true) cases i d h (AllPass-from_list_all fits cases all.passed) }

pub tried-found-requires : goal.tried-found-requires
tried-found-requires c = one_of c.args.cases.now c.loop-case.case-index _ c.loop-case-test.true c.requires
