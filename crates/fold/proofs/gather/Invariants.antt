-- `fold::gather` meets its contract. The invariant: what stands at the first offsets is summed.
-- Assumes nothing.
use mathlib.Core.Path.{◌≡◌}
use lib.ListN.{get_or, take}
use Rattle.components.specs.Relations.{gathered}
use Rattle.fold.proofs.gather.Given as goal

abbrev pub invariant-loop-offset : goal.invariant-loop-offset
invariant-loop-offset g l =
    l.sum ≡ gathered l.x (take l.offset-index l.offset-items) (λ k. get_or l.window k 0) l.i
