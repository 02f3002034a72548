-- `caption::read_symbols` meets its contract. The invariant: l symbols are read.
-- Assumes nothing.
use mathlib.Core.Path.{◌≡◌}
use Prim.Native.Nat.{ℕ, ◌<◌}
use lib.ListN.{get_or}
use Rattle.caption.specs.Pairs.{symbol_in}
use Rattle.caption.proofs.read_symbols.Given as goal

abbrev pub invariant-loop-l : goal.invariant-loop-l
invariant-loop-l l =
    (k : ℕ) → k < l.l → get_or l.block k 0 ≡ symbol_in l.symbols k
