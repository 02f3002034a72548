-- `field::product` meets its contract. The invariant: r and the product of what is left sum to the product that is asked for.
-- Assumes nothing.
use mathlib.Core.Path.{◌≡◌}
use Prim.Native.Nat.{◌<◌}
use Rattle.field.specs.Field.{GF16, ◌⊕◌, product}
use Rattle.field.proofs.product.Given as goal

abbrev pub invariant-loop-y : goal.invariant-loop-y
invariant-loop-y l =
    (l.x < 65536) × (l.y < 65536) × (l.r ⊕ product GF16 l.x l.y ≡ product GF16 l.a l.b)

abbrev pub decreases-loop-y : goal.decreases-loop-y
decreases-loop-y l =
    l.y
