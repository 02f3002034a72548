-- `weights::move_on` meets its contract. The invariant: the weights before are those of 16 symbols on.
-- Assumes nothing.
use Rattle.field.specs.Field.{GF16, product, power, α}
use lib.ListN.{get_or}
use Rattle.weights.specs.Blocks.{Set}
use Rattle.weights.proofs.move_on.Given as goal

abbrev pub invariant-loop-weight : goal.invariant-loop-weight
invariant-loop-weight l =
    Set (λ k. product GF16 (get_or l.initial.weights k 0) (power GF16 α 16)) l.initial.weights l.weight-index l.weights
