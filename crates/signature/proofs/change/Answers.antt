-- `signature::change` meets its contract, component by component.
-- Assumes nothing.
use Rattle.signature.proofs.Handing.{up_to_sum}
use Rattle.signature.proofs.change.Goals as goal

pub returns : goal.returns
returns c =
    simp (
      c.sum-4.ensures,
      c.sum-3.ensures,
      c.sum-2.ensures,
      c.sum.ensures,
      c.own-y.ensures,
      c.own-x.ensures,
      up_to_sum,
    )
