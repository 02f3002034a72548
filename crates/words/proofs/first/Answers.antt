-- `words::first` meets its contract: the four words that are left have component 1 of the object.
-- Assumes nothing.
use mathlib.Core.Path.{◌∙◌}
use Rattle.components.proofs.Relations.{own_1}
use Rattle.words.proofs.Sums.{stands_reduced}
use Rattle.words.proofs.first.Goals as goal

pub returns : goal.returns
returns c =
    stands_reduced c.few_words.ensures c.reduced.ensures ∙ c.left-r.ensures 1 own_1
