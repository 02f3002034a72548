-- `listing::Writer::column` meets its contract: the digits stand right after the space.
-- Assumes nothing.
use mathlib.Core.List.{[], ◌∷◌}
use Rattle.listing.specs.Digits.{hex}
use Rattle.listing.proofs.Writers.{room_then, puts_then}
use Rattle.listing.proofs.Writer.column.Goals as goal

pub hex-requires : goal.hex-requires
hex-requires c = room_then (32 ∷ []) (hex c.args.x) c.args.self.now c.text.new.self c.requires c.text.ensures

pub returns : goal.returns
returns c = puts_then (32 ∷ []) (hex c.args.x) c.args.self.now c.text.new.self c.requires c.text.ensures c.hex.new.self c.hex.ensures
