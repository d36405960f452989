-- `compared::words::lent_words` meets its contract.
use mathlib.Core.Path.{refl}
use Rattle.compared.specs.Compared.{all_dirt}
use Rattle.compared.proofs.words.lent_words.Goals as goal

pub returns : goal.returns
unfolding all_dirt
returns c = record { words = refl; long = refl }
