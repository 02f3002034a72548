-- `weights::moved` meets its contract: the quick way is the product.
-- Assumes nothing.
use native.Mathlib.Omega.{arith}
use Rattle.field.specs.Field.{◌⊕◌}
use Rattle.weights.proofs.Moving.{first, quotient, taken_off, quick}
use Rattle.weights.proofs.moved.Goals as goal

pub returns : goal.returns
unfolding first quotient taken_off ◌⊕◌
returns c =
    quick c.args.weight (omega arith)
