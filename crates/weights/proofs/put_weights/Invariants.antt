-- `weights::put_weights` meets its contract. The invariant: the weights before are put, and the next is at hand.
-- Assumes nothing.
use mathlib.Core.Path.{◌≡◌}
use Rattle.field.specs.Field.{GF16, product, power, α}
use Rattle.weights.specs.Blocks.{Set}
use Rattle.weights.proofs.put_weights.Given as goal

abbrev pub invariant-loop-weight : goal.invariant-loop-weight
invariant-loop-weight l =
    record {
      set : Set (λ k. product GF16 l.first (power GF16 α k)) l.initial.weights l.weight-index l.weights;
      next_is : l.next ≡ product GF16 l.first (power GF16 α l.weight-index);
    }
