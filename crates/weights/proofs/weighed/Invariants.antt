-- `weights::weighed` meets its contract. The invariant: r and the product of what is left sum to the product that is asked for, and x is the weight so many symbols on.
-- Assumes nothing.
use mathlib.Core.Path.{◌≡◌}
use Prim.Native.Nat.{◌/◌, ◌^◌}
use Rattle.field.specs.Field.{GF16, ◌⊕◌, product, power, α}
use Rattle.weights.proofs.weighed.Given as goal

abbrev pub invariant-loop : goal.invariant-loop
invariant-loop l =
    record {
      y_is : l.y ≡ l.symbol / 2 ^ l.counter;
      sum_is : l.r ⊕ product GF16 l.x l.y ≡ product GF16 l.weight l.symbol;
      x_is : l.x ≡ product GF16 l.weight (power GF16 α l.counter);
    }
