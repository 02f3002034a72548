-- `fold::land` meets its contract. The invariant: what stands at the first offsets is added, and the window is as it was from half of what is left on.
-- Assumes nothing.
use lib.ListN.{take}
use Rattle.fold.proofs.Landings.{Landing}
use Rattle.fold.proofs.land.Given as goal

abbrev pub invariant-loop-offset : goal.invariant-loop-offset
invariant-loop-offset g l =
    Landing (take l.offset-index l.offset-items) g.R.Relation.REACH g.R.Relation.known.distance l.initial.window l.window
