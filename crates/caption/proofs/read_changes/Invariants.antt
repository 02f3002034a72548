-- `caption::read_changes` meets its contract. The invariant: l changes are read.
-- Assumes nothing.
use mathlib.Core.Path.{◌≡◌}
use Prim.Native.Nat.{ℕ, ◌-◌, ◌<◌}
use lib.ListN.{get_or, length}
use Rattle.field.specs.Field.{◌⊕◌}
use Rattle.caption.specs.Pairs.{symbol_in}
use Rattle.caption.specs.Codes.{previous}
use Rattle.caption.proofs.read_changes.Given as goal

abbrev pub invariant-loop-l : goal.invariant-loop-l
invariant-loop-l l =
    (k : ℕ) → k < l.l → get_or l.block k 0 ≡ symbol_in l.symbols (length l.symbols - 1 - k) ⊕ previous (symbol_in l.symbols) (length l.symbols - 1 - k)
