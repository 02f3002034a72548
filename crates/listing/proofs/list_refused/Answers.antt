-- `listing::list_refused` meets its contract: the word, the place and the line's end are the listing.
-- Assumes nothing.
use mathlib.Core.Path.{◌≡◌}
use Prim.Native.Nat.{ℕ, ◌+◌}
use native.Mathlib.Omega.{arith}
use lib.ListN.{length}
use Rattle.std.proofs.Common.{rules}
use Rattle.listing.specs.Digits.{width}
use Rattle.listing.specs.Lines.{refused_word, line_end, named, refused_line}
use Rattle.listing.proofs.Texts.{text_short, text_room, text_put}
use Rattle.listing.proofs.Lengths.{refused_line_length}
use Rattle.listing.proofs.Digits.{width_most}
use Rattle.listing.proofs.Writers.{room_first, room_then, puts_then}
use Rattle.listing.proofs.list_refused.Goals as goal

counted : (place digits : ℕ) → digits ≡ width place → 16 + digits ≡ length (refused_line place)
counted place digits is = omega (arith, refused_line_length place)

pub overflow_add-needed : goal.overflow_add-needed
overflow_add-needed c = omega (arith, c.width-needed.ensures, width_most 19 c.args.at)

pub returns-then-output-needed : goal.returns-then-output-needed
returns-then-output-needed c =
    text_short (refused_line c.args.at) c.args.output.now (16 + c.width-needed.result) (counted c.args.at _ c.width-needed.ensures) c.if-output-needed.true

pub named-requires : goal.named-requires
unfolding refused_line
named-requires c =
    let start : _ = c.new-line in
    room_first (named refused_word c.args.at) line_end start.result
    (text_room (refused_line c.args.at) c.args.output.now (16 + c.width-needed.result) (counted c.args.at _ c.width-needed.ensures) c.if-output-needed.false
    start.result start.ensures.empty)

pub text-requires : goal.text-requires
unfolding refused_line
text-requires c =
    let start : _ = c.new-line in
    room_then (named refused_word c.args.at) line_end start.result c.named.new.self
    (text_room (refused_line c.args.at) c.args.output.now (16 + c.width-needed.result) (counted c.args.at _ c.width-needed.ensures) c.if-output-needed.false
    start.result start.ensures.empty)
    c.named.ensures

pub returns : goal.returns
unfolding refused_line
returns c =
    let start : _ = c.new-line in
    let size : _ = counted c.args.at _ c.width-needed.ensures in
    let room : _ = text_room (refused_line c.args.at) c.args.output.now (16 + c.width-needed.result) size c.if-output-needed.false start.result start.ensures.empty in
    text_put (refused_line c.args.at) c.args.output.now (16 + c.width-needed.result) size c.if-output-needed.false start.result start.ensures.empty
    c.text.new.self
    (puts_then (named refused_word c.args.at) line_end start.result c.named.new.self room c.named.ensures c.text.new.self c.text.ensures)
    _ (search rules)
