-- `listing::Writer::page_line` meets its contract: the number, the components and the line's end.
-- Assumes nothing.
use Rattle.signature.specs.Signatures.{handed}
use Rattle.listing.specs.Digits.{decimal}
use Rattle.listing.specs.Lines.{columns, line_end, page_line}
use Rattle.listing.proofs.Writers.{room_three_first, room_three_second, room_three_third, puts_three}
use Rattle.listing.proofs.Writer.page_line.Goals as goal

pub decimal-requires : goal.decimal-requires
unfolding page_line
decimal-requires c = let a : _ = c.args in room_three_first (decimal a.k) (columns a.s.n (handed a.s)) line_end a.self.now c.requires

pub columns-requires : goal.columns-requires
unfolding page_line
columns-requires c =
    let a : _ = c.args in room_three_second (decimal a.k) (columns a.s.n (handed a.s)) line_end a.self.now c.requires c.decimal.new.self c.decimal.ensures

pub text-requires : goal.text-requires
unfolding page_line
text-requires c =
    let a : _ = c.args in
    room_three_third (decimal a.k) (columns a.s.n (handed a.s)) line_end a.self.now c.requires c.decimal.new.self c.decimal.ensures c.columns.new.self c.columns.ensures

pub returns : goal.returns
unfolding page_line
returns c =
    let a : _ = c.args in
    puts_three (decimal a.k) (columns a.s.n (handed a.s)) line_end a.self.now c.requires c.decimal.new.self c.decimal.ensures c.columns.new.self c.columns.ensures
    c.text.new.self c.text.ensures
