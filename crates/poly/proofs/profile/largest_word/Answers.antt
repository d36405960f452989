-- `poly::profile::largest_word` meets its contract.
use mathlib.Core.Path.{◌∙◌, ap}
use Rattle.monomial.specs.Layout.{fits, word_of}
use Rattle.poly.proofs.Maxima.{maxima_of}
use Rattle.poly.proofs.profile.largest_word.Goals as goal

pub word-requires : goal.word-requires
word-requires c = ap (fits 16 4) (maxima_of _ _ c.measure.ensures) ∙ c.requires

pub returns : goal.returns
returns c = c.word.ensures ∙ ap (word_of 16 4) (maxima_of _ _ c.measure.ensures)
