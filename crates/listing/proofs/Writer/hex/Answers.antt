-- `listing::Writer::hex` meets its contract: four digits.
-- Assumes nothing.
use mathlib.Core.Path.{ap, ◌∙◌}
use native.Mathlib.Omega.{arith}
use Rattle.units.specs.Writing.{put_of}
use Rattle.listing.specs.Digits.{hex}
use Rattle.listing.proofs.Writer.hex.Goals as goal

pub returns : goal.returns
unfolding hex
returns c = (ap (put_of c.digits.new.self.output.now) (omega arith) ∙ c.digits.ensures.0, c.digits.ensures.1)
