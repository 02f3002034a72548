-- `units::put_part` meets its contract. The invariant: what is left to write gives what the whole gives.
-- Assumes nothing.
use mathlib.Core.Path.{◌≡◌}
use Prim.Native.Nat.{◌+◌, ◌≤◌}
use lib.ListN.{length, drop}
use Rattle.units.specs.Writing.{written}
use Rattle.units.proofs.put_part.Given as goal

abbrev pub invariant-loop-i : goal.invariant-loop-i
invariant-loop-i l =
    (written l.buffer (l.at + l.i) (drop l.i l.part) ≡ written l.initial.buffer l.at l.part) × (l.i ≤ length l.part) × (length l.buffer ≡ length l.initial.buffer)
