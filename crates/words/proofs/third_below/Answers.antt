-- `words::third_below` meets its contract: what is known of the others, shifted over four words.
-- Assumes nothing.
use native.Mathlib.Omega.{arith}
use Rattle.field.specs.Field.{◌⊕◌}
use Rattle.words.proofs.Sums.{stands_again, joined}
use Rattle.words.proofs.third_below.Goals as goal

pub returns : goal.returns
unfolding ◌⊕◌
returns c =
    joined 48 16 _ 64 (stands_again c.from.ensures (omega arith)) c.few_words.ensures (omega arith) (omega arith) (omega arith)
