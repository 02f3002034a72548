-- `fold::land` meets its contract. The invariant: what stands at the first offsets is added, and the window is as it was from half of what is left on.
-- Assumes nothing.
use mathlib.Core.Path.{◌∙◌, subst}
use Prim.Native.Nat.{ℕ}
use native.Mathlib.Omega.{arith}
use Rattle.fold.specs.Folding.{Added}
use Rattle.fold.proofs.Fars.{Far_up, far_up}
use Rattle.fold.proofs.Landings.{landing_none, landing_more}
use Rattle.fold.proofs.land.Goals as goal

pub loop-offset-init : goal.loop-offset-init
loop-offset-init g c = landing_none _ _ _

pub add-requires : goal.add-requires
add-requires g c =
    let law : _ = g.met.R.Relation in
    let at : Far_up _ _ _ = far_up g.R.Relation.known c.offsets-offset-items.result.now law.far c.offsets-offset-items.ensures (c.REACH.ensures ∙ law.reached) c.loop-offset.offset-index c.loop-offset-test.true in
    (omega arith, omega arith)

pub loop-offset-preserved : goal.loop-offset-preserved
loop-offset-preserved g c =
    let law : _ = g.met.R.Relation in
    landing_more _ _ _ c.offsets-offset-items.result.now c.loop-offset.offset-index c.loop-offset.window c.add.new.window c.loop-offset-test.true
    (far_up g.R.Relation.known c.offsets-offset-items.result.now law.far c.offsets-offset-items.ensures law.reached c.loop-offset.offset-index c.loop-offset-test.true)
    c.loop-offset.invariant (subst (λ (from : ℕ). Added from g.R.Relation.REACH c.loop-offset.window c.add.new.window) (omega arith) (rw c.REACH.ensures at c.add.ensures))
