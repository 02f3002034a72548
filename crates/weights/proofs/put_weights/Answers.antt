-- `weights::put_weights` meets its contract. The invariant: the weights before are put, and the next is at hand.
-- Assumes nothing.
use mathlib.Core.Path.{sym, ap, ◌∙◌}
use native.Mathlib.Omega.{arith}
use Rattle.std.proofs.Common.{rules}
use Rattle.field.specs.Field.{GF16, doubled}
use Rattle.weights.proofs.Turns.{first_weight, next_weight}
use Rattle.weights.proofs.put_weights.Goals as goal

pub loop-weight-init : goal.loop-weight-init
loop-weight-init c = record { set = search rules; next_is = sym (first_weight c.args.first (omega arith)) }

pub loop-weight-preserved : goal.loop-weight-preserved
loop-weight-preserved c =
    let at : _ = c.loop-weight in
    record {
      set = search rules;
      next_is = c.double-next.ensures ∙ ap (doubled GF16) at.invariant.next_is ∙ sym (next_weight c.args.first at.weight-index (omega arith));
    }
