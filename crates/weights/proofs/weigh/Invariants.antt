-- `weights::weigh` meets its contract. The invariant: l symbols are weighed, and l weights are those of 16 symbols on.
-- Assumes nothing.
use Rattle.field.specs.Field.{GF16, product, power, α}
use lib.ListN.{get_or}
use Rattle.weights.specs.Blocks.{Set}
use Rattle.weights.proofs.weigh.Given as goal

abbrev pub invariant-loop-l : goal.invariant-loop-l
invariant-loop-l l =
    record {
      weighed : Set (λ k. product GF16 (get_or l.initial.block k 0) (get_or l.initial.weights k 0)) l.initial.block l.l l.block;
      moved : Set (λ k. product GF16 (get_or l.initial.weights k 0) (power GF16 α 16)) l.initial.weights l.l l.weights;
    }
