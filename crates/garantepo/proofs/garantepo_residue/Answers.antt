-- `garantepo::garantepo_residue` meets its contract: the signed number that it passes on is the one that it was given.
use mathlib.Core.Path.{◌∙◌, ap}
use mir.Syntax.{w32}
use mir.ValLaws.{to_z-of_z}
use Rattle.field.specs.Answers.{residue_of}
use Rattle.garantepo.proofs.garantepo_residue.Goals as goal

pub returns : goal.returns
returns c = c.residue.ensures ∙ ap (residue_of _) (to_z-of_z w32 _ c.ranges.n)
