-- `field::double` meets its contract: the laws of doubling in a machine word, at 16 bits.
-- Assumes nothing.
use native.Mathlib.Omega.{arith}
use Rattle.field.specs.Field.{GF16, ◌⊕◌}
use Rattle.field.proofs.Products.{doubled_small, doubled_large}
use Rattle.field.proofs.Instances.{GF16_formed}
use Rattle.field.proofs.double.Goals as goal

pub returns-then-a-lt32768 : goal.returns-then-a-lt32768
returns-then-a-lt32768 c =
    doubled_small GF16 GF16_formed c.args.a (omega arith)

pub returns-else-a-lt32768 : goal.returns-else-a-lt32768
unfolding ◌⊕◌
returns-else-a-lt32768 c =
    doubled_large GF16 GF16_formed (omega arith) (omega arith)
