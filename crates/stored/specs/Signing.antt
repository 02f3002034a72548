-- A map that holds an image's signatures.
use Rattle.std.specs.Prelude.{Ok}
use Rattle.std.specs.Prelude.{◌≡◌, List, ℕ, ◌<◌, length}
use Rattle.signature.specs.Kinds.{wide}
use Rattle.signature.specs.Operations.{own}
use Rattle.map.specs.Buckets.{page_at}
use Rattle.map.specs.Files.{pages}
use Rattle.map.specs.Reading.{reading, entry_at}
use Rattle.map.specs.declared.Entry.{Entry}
use Rattle.map.specs.declared.Header.{Header}

-- each page's entry has the page's own signature
abbrev pub Signs : Header → List ℕ → (ℕ → Entry) → Type 0
Signs h image entry = (k : ℕ) → k < pages h → (entry k).signature ≡ own wide h.n (page_at h.page.count image k)

-- the map reads, is of the image's length, and its entries have the signatures of the image's pages
pub record Signed (h : Header) (image map : List ℕ) : Type 0 where
  pub holds : reading map ≡ Ok h
  pub long : length image ≡ h.bucket.count
  pub signs : Signs h image (entry_at h.n map)
