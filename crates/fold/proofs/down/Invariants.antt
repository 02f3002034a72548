-- `fold::down` meets its contract. The invariant: the places of the block from i on are done.
-- Assumes nothing.
use Rattle.components.specs.Relations.{in_bytes}
use Rattle.fold.proofs.Turns.{Taken}
use Rattle.fold.proofs.down.Given as goal

abbrev pub invariant-loop-i : goal.invariant-loop-i
invariant-loop-i g l =
    Taken (in_bytes g.R.Relation.known.offsets) l.block l.initial.window l.window l.i
