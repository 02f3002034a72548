-- `words::one_word` meets its contract: two symbols are joined to two.
-- Assumes nothing.
use native.Mathlib.Omega.{arith}
use Rattle.field.specs.Field.{◌⊕◌}
use Rattle.words.proofs.Sums.{word_stands}
use Rattle.words.proofs.one_word.Goals as goal

pub returns : goal.returns
unfolding ◌⊕◌
returns c =
    word_stands c.args.word c.args.j (omega arith) c.requires.0 c.requires.1
