-- The sizes of a map that was read: a page has bytes, there are few of them, and each begins in the bucket.
-- Assumes nothing.
use mathlib.Core.Bool.{◌&&◌}
use Prim.Native.Nat.{ℕ, ◌*◌, ◌%◌, ◌≤◌, ◌<◌}
use native.Mathlib.Omega.{arith}
use lib.Dec.{leb, eqb}
use borrow.Author.Tests.{leb-true}
use Rattle.units.proofs.Pieces.{piece_begins}
use Rattle.map.specs.Files.{pages}
use Rattle.map.specs.declared.Header.{Header}
use Rattle.map.proofs.Contents.{Sized}
use Rattle.map.proofs.Fields.{halves}
use Rattle.map.proofs.MadeMaps.{pages_most, bucket_most}

module _ (h : Header) (sized : Sized h) where
  pub some_page : 0 < h.page.count
  some_page =
      let two : 2 ≤ h.page.count =
      leb-true 2 _ (halves (eqb (h.page.count % 2) 0) _ (halves (eqb (h.page.count % 2) 0 && leb 2 h.page.count) _ sized.page_fits).0).1 in
      omega arith

  pub few_pages : pages h ≤ 4096
  few_pages = pages_most h.bucket.count (pages h) sized.bucket_fits

  -- a page begins in the bucket
  pub page_starts : (k : ℕ) → k < pages h → k * h.page.count < h.bucket.count
  page_starts k inside = piece_begins h.page.count h.bucket.count some_page k inside

  pub short_bucket : h.bucket.count ≤ 16777216
  short_bucket = bucket_most h.bucket.count (pages h) sized.bucket_fits
