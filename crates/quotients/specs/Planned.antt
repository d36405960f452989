-- What either call leaves, as its plan has it. No caller of a public function meets it.
--
--   walked plan q r work   the walk's outcome in these rooms: the divide test has an empty remainder room there
use Rattle.std.specs.Prelude.{ℕ, List}
use Rattle.calls.specs.Outcomes.{Outcome, ended}
use Rattle.judges.specs.declared.Plan.{Plan}
use Rattle.steps.specs.Walking.{whole}

abbrev pub walked : Plan → List ℕ → List ℕ → List ℕ → Outcome
walked plan q r work = let w = whole plan in ended w.reply w.quotient w.remainder q r work
