-- `listing::Writer::named` meets its contract: the number stands right after the word.
-- Assumes nothing.
use Rattle.listing.specs.Digits.{decimal}
use Rattle.listing.proofs.Writers.{room_then, puts_then}
use Rattle.listing.proofs.Writer.named.Goals as goal

pub decimal-requires : goal.decimal-requires
decimal-requires c = room_then c.args.word.now (decimal c.args.x) c.args.self.now c.text.new.self c.requires c.text.ensures

pub returns : goal.returns
returns c =
    puts_then c.args.word.now (decimal c.args.x) c.args.self.now c.text.new.self c.requires c.text.ensures c.decimal.new.self c.decimal.ensures
