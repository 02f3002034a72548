-- `fold::add` meets its contract. The invariant: to the first i bytes is added.
-- Assumes nothing.
use native.Mathlib.Omega.{arith}
use Rattle.field.specs.Field.{◌⊕◌}
use Rattle.fold.proofs.Landings.{adding_more, added}
use Rattle.fold.proofs.add.Goals as goal

pub loop-i-preserved : goal.loop-i-preserved
unfolding ◌⊕◌
loop-i-preserved c =
    adding_more c.args.from c.loop-i.i c.args.window.now c.loop-i.window (omega arith) c.loop-i.invariant

pub returns : goal.returns
returns c =
    added c.args.from c.loop-i.i c.args.to c.args.window.now c.loop-i.window (omega arith) c.loop-i.invariant
