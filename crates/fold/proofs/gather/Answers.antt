-- `fold::gather` meets its contract. The invariant: what stands at the first offsets is summed.
-- Assumes nothing.
use mathlib.Core.Path.{refl, ap, ◌∙◌}
use Prim.Native.Nat.{ℕ, ◌+◌}
use native.Mathlib.Omega.{arith}
use lib.ListN.{get_or}
use Rattle.field.specs.Field.{◌⊕◌}
use Rattle.components.specs.Relations.{summed}
use Rattle.fold.proofs.Fars.{Far_up, far_up}
use Rattle.fold.proofs.Landings.{gathered_more}
use Rattle.fold.proofs.gather.Goals as goal

pub loop-offset-init : goal.loop-offset-init
unfolding summed
loop-offset-init g c = refl

pub overflow_add-sum : goal.overflow_add-sum
overflow_add-sum g c =
    let law : _ = g.met.R.Relation in
    let at : Far_up _ _ _ = far_up g.R.Relation.known c.offsets-offset-items.result.now law.far c.offsets-offset-items.ensures law.reached c.loop-offset.offset-index c.loop-offset-test.true in
    omega arith

pub bounds-window-i : goal.bounds-window-i
bounds-window-i g c =
    let law : _ = g.met.R.Relation in
    let at : Far_up _ _ _ = far_up g.R.Relation.known c.offsets-offset-items.result.now law.far c.offsets-offset-items.ensures law.reached c.loop-offset.offset-index c.loop-offset-test.true in
    omega arith

pub loop-offset-preserved : goal.loop-offset-preserved
unfolding ◌⊕◌
loop-offset-preserved g c =
    ap (λ (offset : ℕ). c.loop-offset.sum ⊕ get_or c.args.window.now (c.args.i + offset) 0) (omega arith)
    ∙ gathered_more c.args.x c.offsets-offset-items.result.now (λ k. get_or c.args.window.now k 0) c.args.i c.loop-offset.offset-index c.loop-offset-test.true c.loop-offset.invariant
