-- A page that is lent as a part of the image is the image's page, and goes back where it stood.
-- Assumes nothing.
use Rattle.std.specs.Prelude.{Ok}
use mathlib.Core.Path.{◌≡◌, sym, ap, ◌∙◌}
use mathlib.Core.Logic.{dite}
use mathlib.Core.List.{List, ◌++◌}
use Prim.Native.Nat.{ℕ, ◌+◌, ◌-◌, ◌*◌, ◌≤◌, ◌<◌, min}
use native.Mathlib.Decide.{dec_lt}
use native.Mathlib.Omega.{arith}
use lib.ListN.{length, take, drop, length-take}
use lib.Seq.{take_all, take-length, drop-drop}
use borrow.Rule.Slice.PartMut.{put_mid}
use Rattle.units.specs.Writing.{written}
use Rattle.signature.specs.Objects.{symbols}
use Rattle.map.specs.Buckets.{page_at}
use Rattle.map.specs.Files.{pages}
use Rattle.map.specs.Reading.{reading}
use Rattle.map.specs.declared.Header.{Header}
use Rattle.map.proofs.Contents.{Sized}
use Rattle.map.proofs.Holding.{holds_sized}
use Rattle.map.proofs.MadeMaps.{n_most, page_most}
use Rattle.backup.proofs.Bounds.{page_starts, short_bucket}
use Rattle.backup.proofs.Pages.{page_length}

take_taken : (n : ℕ) (l : List ℕ) → take (length (take n l)) l ≡ take n l
take_taken n l =
    dite (dec_lt (length l) n)
    (λ (short : length l < n).
    let all : length (take n l) ≡ length l = omega (arith, length-take n l) in
    ap (λ (k : ℕ). take k l) all ∙ take-length l ∙ sym (take_all n l (omega arith)))
    (λ long. let all : length (take n l) ≡ n = omega (arith, length-take n l) in ap (λ (k : ℕ). take k l) all)

-- page k of the image under a map that was read
pub record Lent (h : Header) (image map : List ℕ) (k : ℕ) (page : List ℕ) : Type 0 where
  pub holds : reading map ≡ Ok h
  pub long : length image ≡ h.bucket.count
  pub inside : k < pages h
  pub is : page ≡ page_at h.page.count image k

module _ {h : Header} {image map : List ℕ} {k : ℕ} {page : List ℕ} (q : Lent h image map k page) where
  abbrev start : ℕ
  start = k * h.page.count

  sized : Sized h
  sized = holds_sized map h q.holds

  size : length page ≡ min h.page.count (length image - start)
  size = ap length q.is ∙ page_length h.page.count image k

  pub lent_inside : start + length page ≤ length image
  lent_inside = omega (arith, page_starts h sized k q.inside, size, q.long)

  pub lent_below : start + length page ≤ 16777216
  lent_below = omega (arith, lent_inside, short_bucket h sized, q.long)

  pub lent_four : h.n ≤ 4
  lent_four = n_most h.n sized.n_fits

  count : start + length page - start ≡ length page
  count = omega arith

  pub lent_page : take (start + length page - start) (drop start image) ≡ page_at h.page.count image k
  unfolding page_at
  lent_page = ap (λ (n : ℕ). take n (drop start image)) (count ∙ ap length q.is) ∙ take_taken h.page.count (drop start image)

  pub lent_short : symbols 2 (take (start + length page - start) (drop start image)) ≤ 65534
  lent_short = omega (arith, page_most h.page.count sized.page_fits, size, ap length lent_page, ap length q.is)

  pub put_back : (new : List ℕ) → length new ≡ length (take (start + length page - start) (drop start image))
      → put_mid start (start + length page - start) image new ≡ written image start new
  unfolding written
  put_back new as_long =
      let end : start + (start + length page - start) ≡ start + length new = omega (arith, as_long, ap length lent_page, ap length q.is) in
      ap (λ (l : List ℕ). take start image ++ (new ++ l)) (drop-drop (start + length page - start) start image ∙ ap (λ (n : ℕ). drop n image) end)
