-- `field::times_power` meets its contract. The invariant: r times the power of s that is left is what is asked for.
-- Assumes nothing.
use mathlib.Core.Path.{◌≡◌}
use Prim.Native.Nat.{◌<◌}
use Rattle.field.specs.Field.{GF16, α, product, power}
use Rattle.field.proofs.times_power.Given as goal

abbrev pub invariant-loop-left : goal.invariant-loop-left
invariant-loop-left l =
    (l.r < 65536) × (l.s < 65536) × (product GF16 l.r (power GF16 l.s l.left) ≡ product GF16 l.a (power GF16 α l.initial.left))

abbrev pub decreases-loop-left : goal.decreases-loop-left
decreases-loop-left l =
    l.left
