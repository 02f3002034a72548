-- `repair::low_bytes` meets its contract.
-- Assumes nothing.
use Rattle.signature.specs.Objects.{low_bytes}
use Rattle.repair.proofs.low_bytes.Goals as goal

pub returns : goal.returns
unfolding low_bytes
returns c = c.to_le_bytes.ensures
