-- `repair::power_between` meets its contract. The invariant: x is a times the power of α at i, and the first power of those left is the first of all.
-- Assumes nothing.
use mathlib.Core.Path.{◌≡◌}
use mathlib.Core.Bool.{Bool}
use Prim.Native.Nat.{ℕ, ◌-◌}
use lib.Dec.{eqb}
use Rattle.units.specs.Naming.{first_named}
use Rattle.field.specs.Field.{GF16, product, power, α}
use Rattle.repair.proofs.power_between.Given as goal

-- the power of α at i makes b of a
abbrev pub makes : ℕ → ℕ → ℕ → Bool
makes a b i = eqb (product GF16 a (power GF16 α i)) b

abbrev pub invariant-loop-i : goal.invariant-loop-i
invariant-loop-i l =
    (l.x ≡ product GF16 l.a (power GF16 α l.i)) × (first_named (makes l.a l.b) (l.m - l.i) l.i ≡ first_named (makes l.a l.b) l.m 0)
