-- `listing::Writer::two_named` meets its contract: the second stands right after the first.
-- Assumes nothing.
use Rattle.listing.specs.Lines.{named}
use Rattle.listing.proofs.Writers.{room_then, puts_then}
use Rattle.listing.proofs.Writer.two_named.Goals as goal

pub named-requires-2 : goal.named-requires-2
named-requires-2 c =
    let args : _ = c.args in room_then (named args.one.now args.x) (named args.two.now args.y) args.self.now c.named.new.self c.requires c.named.ensures

pub returns : goal.returns
returns c =
    let args : _ = c.args in
    puts_then (named args.one.now args.x) (named args.two.now args.y) args.self.now c.named.new.self c.requires c.named.ensures c.named-2.new.self
    c.named-2.ensures
