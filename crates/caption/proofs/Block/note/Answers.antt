-- `caption::Block::note` meets its contract. The invariant: the hits before place i + k are noted.
-- Assumes nothing.
use mathlib.Core.Path.{◌≡◌, sym, ◌∙◌, subst}
use Prim.Native.Nat.{suc, ◌+◌}
use native.Mathlib.Omega.{arith}
use borrow.Author.Tests.{eq-eqb, ne_eqb}
use Rattle.std.proofs.Common.{rules}
use Rattle.caption.specs.Blocks.{Notes}
use Rattle.caption.proofs.Listing.{passed, listed}
use Rattle.caption.proofs.Block.note.Goals as goal
use Rattle.caption.proofs.Block.note.Goals.{then-summed-weighed, else-summed-weighed}

pub loop-k-preserved : goal.loop-k-preserved
loop-k-preserved c =
    let at : _ = c.loop-k in
    let self : _ = c.args.self.now in
    let up : self.i + (at.k + 1) ≡ suc (self.i + at.k) = omega arith in
    elim c.if-summed-weighed.branch [
      | then-summed-weighed w ↦ record {
        few = search (rules, w.hits-is);
        long = search (rules, w.hits-is);
        same_list = search (rules, w.hits-is);
        noted = λ test old long each from.
            subst (Notes test old (self.i + (at.k + 1))) (sym w.hits-is)
            (listed (at.invariant.noted test old long each from) w.push.new.self up (each at.k (omega arith) ∙ eq-eqb _ _ (sym c.summed.ensures ∙ w.if-summed-weighed.true)) (omega (arith, long)) w.push.ensures.pushed);
      }
      | else-summed-weighed w ↦ record {
        few = search (rules, w.hits-is);
        long = search (rules, w.hits-is);
        same_list = search (rules, w.hits-is);
        noted = λ test old long each from.
            subst (Notes test old (self.i + (at.k + 1))) (sym w.hits-is)
            (passed (at.invariant.noted test old long each from) up (each at.k (omega arith) ∙ ne_eqb _ _ (λ e. w.if-summed-weighed.false (c.summed.ensures ∙ e))));
      }
    ]
