-- `fold::add` meets its contract. The invariant: to the first i bytes is added.
-- Assumes nothing.
use Rattle.fold.proofs.Landings.{Adding}
use Rattle.fold.proofs.add.Given as goal

abbrev pub invariant-loop-i : goal.invariant-loop-i
invariant-loop-i l =
    Adding l.from l.i l.initial.window l.window
