-- `caption::put_symbols` meets its contract. The invariant: what is still to be written, over what is there, gives what all of it gives.
-- Assumes nothing.
use mathlib.Core.Path.{◌≡◌}
use Prim.Native.Nat.{ℕ, ◌-◌, ◌<◌}
use lib.ListN.{length, get_or}
use Rattle.units.specs.Writing.{written}
use Rattle.caption.specs.Recoding.{bytes}
use Rattle.caption.proofs.put_symbols.Given as goal

abbrev pub invariant-loop-l : goal.invariant-loop-l
invariant-loop-l l =
    (s : ℕ → ℕ) → ((k : ℕ) → k < length l.block → get_or l.block k 0 ≡ s (l.i - 1 - k)) → written l.output 0 (bytes (l.i - l.l) s) ≡ written l.initial.output 0 (bytes l.i s)
