-- `map::header_of` meets its contract: the three values stand at their places.
-- Assumes nothing.
use Rattle.signature.proofs.Numbers.{one_byte}
use Rattle.map.specs.Reading.{header_of}
use Rattle.map.proofs.header_of.Goals as goal

pub returns : goal.returns
unfolding header_of
returns c =
    cc (one_byte c.args.map.now 3, c.byte.ensures, c.four_bytes.ensures, c.four_bytes-2.ensures)
