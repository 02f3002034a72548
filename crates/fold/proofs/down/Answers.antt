-- `fold::down` meets its contract. The invariant: the places of the block from i on are done.
-- Assumes nothing.
use Prim.Native.Nat.{◌-◌}
use native.Mathlib.Omega.{arith}
use Rattle.components.specs.Relations.{in_bytes}
use Rattle.fold.specs.Folding.{Far}
use Rattle.fold.proofs.Turns.{taken_turn}
use Rattle.fold.proofs.down.Goals as goal

pub loop-i-preserved : goal.loop-i-preserved
loop-i-preserved g c =
    let far : Far g.R.Relation.known = g.met.R.Relation.far in
    taken_turn (in_bytes g.R.Relation.known.offsets) far.some far.offsets c.args.block.now c.args.window.now c.loop-i.window (c.loop-i.i - 1)
    (omega arith) (omega arith) (omega arith) c.gather.ensures c.loop-i.invariant
