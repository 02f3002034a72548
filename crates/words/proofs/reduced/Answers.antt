-- `words::reduced` meets its contract: it is the quick reduction.
-- Assumes nothing.
use native.Mathlib.Omega.{arith}
use Rattle.field.specs.Field.{◌⊕◌}
use Rattle.words.proofs.Reducing.{first, second, third, fourth, quotient, taken_off, quick}
use Rattle.words.proofs.reduced.Goals as goal

pub returns : goal.returns
unfolding first second third fourth quotient taken_off ◌⊕◌
returns c =
    quick c.args.s (omega arith)
