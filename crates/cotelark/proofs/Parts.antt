-- Where a loaded page stands: the part of the image that `loaded_part` names holds the page.
-- Assumes nothing.
use mathlib.Core.Path.{◌≡◌, refl, sym, ap, ap₂, ◌∙◌}
use mathlib.Core.List.{List}
use Prim.Native.Nat.{ℕ, ◌*◌, ◌≤◌}
use native.Mathlib.Omega.{arith}
use lib.ListN.{length, take, drop, length-take}
use lib.Seq.{take-take, take-length}
use Rattle.units.specs.declared.Refusal.{Refusal}
use Rattle.units.specs.Refusals.{Verdict}
use Rattle.map.specs.Buckets.{page_at}
use Rattle.map.specs.Reading.{header_of}
use Rattle.map.specs.declared.Header.{Header}
use Rattle.load.specs.Loads.{asking, loaded_page}
use Rattle.load.proofs.Answers.{load_gives, load_refused}
use Rattle.cotelark.specs.Replies.{Part, part_of, part_unless, loaded_part}
use Rattle.std.specs.Prelude.{Ok, Err}
use Rattle.units.specs.Refusals.{allowed, refused}

-- as many elements as a list's start has are that start
start_again : (size : ℕ) (l : List ℕ) → take (length (take size l)) l ≡ take size l
start_again size l =
    let t : List ℕ = take size l in
    let short : length t ≤ size = omega (arith, length-take size l) in
    sym (take-take (length t) size l short) ∙ take-length t

module _ (image map : List ℕ) (k : ℕ) where
  part_by : (v : Verdict) → asking image map k ≡ v
      → loaded_part image map k ≡ part_unless v (k * (header_of map).page.count) (length (loaded_page image map k))
  unfolding loaded_part
  part_by v e = ap (λ (w : Verdict). part_unless w (k * (header_of map).page.count) (length (loaded_page image map k))) e

  pub part_refused : (r : Refusal) → asking image map k ≡ refused r → loaded_part image map k ≡ part_of 0 0
  part_refused r e = part_by (refused r) e

  -- h is the map's header, and part the page that it says
  pub part_loaded : (h : Header) (part : List ℕ) → asking image map k ≡ allowed → header_of map ≡ h → part ≡ page_at h.page.count image k
      → loaded_part image map k ≡ part_of (k * h.page.count) (length part)
  part_loaded h part e header is =
      let page : loaded_page image map k ≡ part =
      load_gives image map k e ∙ ap (λ (g : Header). page_at g.page.count image k) header ∙ sym is in
      part_by allowed e ∙ ap₂ part_of (ap (λ (g : Header). k * g.page.count) header) (ap length page)

  holds_page : (v : Verdict) → asking image map k ≡ v → take (loaded_part image map k).bytes (drop (loaded_part image map k).start image) ≡ loaded_page image map k
  unfolding page_at
  holds_page (Ok _) e =
      let page : ℕ = (header_of map).page.count in
      let part : _ = part_loaded (header_of map) (page_at page image k) e refl refl in
      ap (λ (p : Part). take p.bytes (drop p.start image)) part ∙ start_again page (drop (k * page) image) ∙ sym (load_gives image map k e)
  holds_page (Err r) e = ap (λ (p : Part). take p.bytes (drop p.start image)) (part_refused r e) ∙ sym (load_refused image map k r e)

  -- the bytes of the part are the page's, and a refused load's part has none
  pub part_holds_page : take (loaded_part image map k).bytes (drop (loaded_part image map k).start image) ≡ loaded_page image map k
  part_holds_page = holds_page (asking image map k) refl
