-- `listing::list_held` meets its contract: the header line and the pages' lines are the listing.
-- Assumes nothing.
use mathlib.Core.Path.{◌≡◌}
use mathlib.Core.List.{List, ◌++◌}
use Prim.Native.Nat.{ℕ, ◌+◌}
use native.Mathlib.Omega.{arith}
use lib.ListN.{length, length-append}
use Rattle.std.proofs.Common.{rules}
use Rattle.units.specs.Runs.{end_to_end}
use Rattle.map.specs.Files.{pages}
use Rattle.map.specs.declared.Header.{Header}
use Rattle.listing.specs.Lines.{header_line, page_line, line_of}
use Rattle.listing.proofs.Texts.{text_short, text_room, text_put}
use Rattle.listing.proofs.Pages.{lines_bytes, lines_most, header_most}
use Rattle.listing.proofs.Writers.{room_then, puts_then}
use Rattle.listing.proofs.list_held.Goals as goal

abbrev lines : Header → List ℕ → List ℕ
lines h bytes = end_to_end (line_of h.n bytes) 0 (pages h)

-- the bytes counted are those of the listing
counted : (h : Header) (bytes : List ℕ) (head tail : ℕ) → head ≡ length (header_line h) → tail ≡ length (end_to_end (λ k. page_line h.n k (λ j. 0)) 0 (pages h))
    → head + tail ≡ length (header_line h ++ lines h bytes)
counted h bytes head tail one two =
    omega (arith, one, two, length-append (header_line h) (lines h bytes), lines_bytes h.n bytes (pages h))

pub overflow_add-needed : goal.overflow_add-needed
overflow_add-needed c =
    let required : _ = c.requires in
    let h : Header = c.args.h in
    omega (arith, c.header_line_bytes.ensures, header_most h, c.page_lines_bytes.ensures, lines_most h.n required.0 (pages h) 0, required.1)

pub returns-then-output-needed : goal.returns-then-output-needed
returns-then-output-needed c =
    let h : Header = c.args.h in
    let size : _ = counted h c.args.map.now _ _ c.header_line_bytes.ensures c.page_lines_bytes.ensures in
    text_short (header_line h ++ lines h c.args.map.now) c.args.output.now _ size c.if-output-needed.true

pub page_lines-requires : goal.page_lines-requires
page_lines-requires c =
    let h : Header = c.args.h in
    let start : _ = c.new-lines in
    let size : _ = counted h c.args.map.now _ _ c.header_line_bytes.ensures c.page_lines_bytes.ensures in
    room_then (header_line h) (lines h c.args.map.now) start.result c.header_line.new.self
    (text_room (header_line h ++ lines h c.args.map.now) c.args.output.now _ size c.if-output-needed.false start.result start.ensures.empty)
    c.header_line.ensures

pub returns : goal.returns
returns c =
    let h : Header = c.args.h in
    let start : _ = c.new-lines in
    let text : List ℕ = header_line h ++ lines h c.args.map.now in
    let size : _ = counted h c.args.map.now _ _ c.header_line_bytes.ensures c.page_lines_bytes.ensures in
    let room : _ = text_room text c.args.output.now _ size c.if-output-needed.false start.result start.ensures.empty in
    text_put text c.args.output.now _ size c.if-output-needed.false start.result start.ensures.empty c.page_lines.new.self
    (puts_then (header_line h) (lines h c.args.map.now) start.result c.header_line.new.self room c.header_line.ensures c.page_lines.new.self c.page_lines.ensures)
    _ (search rules)
