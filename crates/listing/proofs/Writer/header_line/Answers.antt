-- `listing::Writer::header_line` meets its contract: two and two numbers, and the line's end.
-- Assumes nothing.
use mathlib.Core.Path.{◌≡◌, refl, sym, subst}
use mathlib.Core.List.{List, ◌++◌}
use Prim.Native.Nat.{ℕ}
use Rattle.map.specs.Files.{pages}
use Rattle.map.specs.declared.Header.{Header}
use Rattle.listing.specs.Lines.{n_word, page_word, bucket_word, pages_word, line_end, two_named, header_line}
use Rattle.listing.specs.declared.Writer.{Writer}
use Rattle.listing.specs.Writers.{HasRoom, Puts}
use Rattle.listing.proofs.Writers.{room_three_first, room_three_second, room_three_third, puts_three}
use Rattle.listing.proofs.Writer.header_line.Goals as goal

abbrev sizes : Header → List ℕ
sizes h = two_named n_word h.n page_word h.page.count

abbrev counts : Header → ℕ → List ℕ
counts h k = two_named bucket_word h.bucket.count pages_word k

module _ (h : Header) (k : ℕ) (is : k ≡ pages h) where
  room_by : (w : Writer) → HasRoom (header_line h) w → HasRoom (sizes h ++ counts h k ++ line_end) w
  unfolding header_line
  room_by w room = subst (λ (i : ℕ). HasRoom (sizes h ++ counts h i ++ line_end) w) (sym is) room

  puts_by : (old new : Writer) → Puts (sizes h ++ counts h k ++ line_end) old new → Puts (header_line h) old new
  unfolding header_line
  puts_by old new put = subst (λ (i : ℕ). Puts (sizes h ++ counts h i ++ line_end) old new) is put

pub two_named-requires : goal.two_named-requires
two_named-requires c =
    let h : Header = c.args.h in
    room_three_first (sizes h) (counts h (pages h)) line_end c.args.self.now (room_by h (pages h) refl c.args.self.now c.requires)

pub two_named-requires-2 : goal.two_named-requires-2
two_named-requires-2 c =
    let h : Header = c.args.h in
    let k : ℕ = c.pages.result in
    room_three_second (sizes h) (counts h k) line_end c.args.self.now (room_by h k c.pages.ensures c.args.self.now c.requires) c.two_named.new.self c.two_named.ensures

pub text-requires : goal.text-requires
text-requires c =
    let h : Header = c.args.h in
    let k : ℕ = c.pages.result in
    room_three_third (sizes h) (counts h k) line_end c.args.self.now (room_by h k c.pages.ensures c.args.self.now c.requires) c.two_named.new.self c.two_named.ensures
    c.two_named-2.new.self c.two_named-2.ensures

pub returns : goal.returns
returns c =
    let h : Header = c.args.h in
    let k : ℕ = c.pages.result in
    puts_by h k c.pages.ensures c.args.self.now c.text.new.self
    (puts_three (sizes h) (counts h k) line_end c.args.self.now (room_by h k c.pages.ensures c.args.self.now c.requires) c.two_named.new.self
    c.two_named.ensures c.two_named-2.new.self c.two_named-2.ensures c.text.new.self c.text.ensures)
