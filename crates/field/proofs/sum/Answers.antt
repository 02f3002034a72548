-- `field::sum` meets its contract: the machine's exclusive or is the sum.
-- Assumes nothing.
use mathlib.Core.Path.{refl}
use Rattle.field.specs.Field.{◌⊕◌}
use Rattle.field.proofs.sum.Goals as goal

pub returns : goal.returns
unfolding ◌⊕◌
returns c =
    refl
