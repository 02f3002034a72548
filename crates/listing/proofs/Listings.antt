-- What is promised of a listing: no second answer meets its contract, a refusal changes nothing, and no listing is longer than the room that is named.
-- Assumes nothing.
use Rattle.std.specs.Prelude.{Ok, Err}
use mathlib.Core.Path.{◌≡◌, refl, sym, ap, ◌∙◌}
use mathlib.Core.Logic.{◌↔◌}
use mathlib.Core.List.{List, [], ◌∷◌}
use Prim.Native.Nat.{ℕ, ◌≤◌}
use native.Mathlib.Omega.{arith}
use lib.ListN.{length, take, drop, length-append}
use borrow.Author.Tests.{le-ltb}
use Rattle.units.specs.Refusals.{first}
use Rattle.units.specs.Filling.{told, room}
use Rattle.units.specs.declared.Refusal.{Refusal}
use Rattle.units.specs.Filling.{Filled}
use Rattle.units.specs.Runs.{end_to_end}
use Rattle.units.proofs.Refusing.{Lowest}
use Rattle.units.proofs.Filling.{filling_refused, filling_refused_keeps, filling_puts, filling_keeps_after}
use Rattle.map.specs.Files.{pages}
use Rattle.map.specs.Reading.{reading}
use Rattle.map.specs.Reading.{Reading}
use Rattle.map.proofs.MadeMaps.{n_most, pages_most}
use Rattle.map.proofs.Contents.{Sized}
use Rattle.map.proofs.Holding.{holds_sized}
use Rattle.listing.specs.Lines.{header_line, line_of, listed, listing, text_out}
use Rattle.listing.proofs.Digits.{width_most}
use Rattle.listing.proofs.Lengths.{refused_line_length}
use Rattle.listing.proofs.Pages.{lines_bytes, lines_most, header_most}
use Rattle.listing.proofs.list.Reads as List
use Rattle.units.specs.Refusals.{allowed, refused}

pub list_one_answer : (κs : _) (a : _) (r s : Filled) (x y : _) → List.Post κs a r x → List.Post κs a s y → (r ≡ s) × (x.1.0.now ≡ y.1.0.now)
list_one_answer κs a r s x y p q = let same : _ = p ∙ sym q in (ap (λ o. o.answer) same, ap (λ o. o.output) same)

-- the longest listing
pub listing_most : (bytes : List ℕ) → length (listing bytes) ≤ 168040
unfolding listing
listing_most bytes = by (reading bytes) refl
  where
    by : (r : Reading) → reading bytes ≡ r → length (listed bytes r) ≤ 168040
    by (Ok h) is =
        let ok : Sized h = holds_sized bytes h is in
        let lines : List ℕ = end_to_end (line_of h.n bytes) 0 (pages h) in
        omega (
          arith,
          length-append (header_line h) lines,
          header_most h,
          lines_bytes h.n bytes (pages h),
          lines_most h.n (n_most h.n ok.n_fits) (pages h) 0,
          pages_most h.bucket.count (pages h) ok.bucket_fits,
        )
    by (Err b) is = omega (arith, refused_line_length b.place, width_most 19 b.place)

module _ (bytes output : List ℕ) where
  pub list_refused : (r : Refusal) → (told (text_out (listing bytes) output).answer ≡ refused r) ↔ Lowest (room (length (listing bytes)) output ∷ []) r
  unfolding text_out
  list_refused = filling_refused (length (listing bytes)) (listing bytes) output (room (length (listing bytes)) output ∷ []) tt

  pub list_refused_keeps : (r : Refusal) → told (text_out (listing bytes) output).answer ≡ refused r → (text_out (listing bytes) output).output ≡ output
  unfolding text_out
  list_refused_keeps = filling_refused_keeps (length (listing bytes)) (listing bytes) output (room (length (listing bytes)) output ∷ [])

  module _ (enough : length (listing bytes) ≤ length output) where
    list_allowed : first (room (length (listing bytes)) output ∷ []) ≡ allowed
    list_allowed = simp (le-ltb (length output) (length (listing bytes)) enough)

    pub list_puts : take (length (listing bytes)) (text_out (listing bytes) output).output ≡ listing bytes
    unfolding text_out
    list_puts = filling_puts (length (listing bytes)) (listing bytes) output (room (length (listing bytes)) output ∷ []) refl enough list_allowed

    pub list_keeps_after : drop (length (listing bytes)) (text_out (listing bytes) output).output ≡ drop (length (listing bytes)) output
    unfolding text_out
    list_keeps_after = filling_keeps_after (length (listing bytes)) (listing bytes) output (room (length (listing bytes)) output ∷ []) refl enough list_allowed
