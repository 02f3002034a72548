-- What demand 3 asks of a store.
use Rattle.std.specs.Prelude.{◌≡◌, ◌↔◌, ◌≢◌, ℕ, ◌≤◌, ◌<◌, length}
use mathlib.Core.List.{List, Memᴰ}
use Rattle.units.specs.Naming.{Upward}
use Rattle.units.specs.Writing.{written}
use Rattle.signature.specs.Differences.{differing}
use Rattle.map.specs.Buckets.{page_at}
use Rattle.map.specs.Files.{pages}
use Rattle.map.specs.Making.{made}
use Rattle.map.specs.declared.Header.{Header}
use Rattle.store.specs.Stores.{Stored}

-- no page of the table differs from its image page in more than n symbols
abbrev pub FewDiffer : Header → List ℕ → List ℕ → Type 0
FewDiffer h table image = (k : ℕ) → k < pages h → differing 2 (page_at h.page.count table k) (page_at h.page.count image k) ≤ h.n

-- the image is the table, the map is the one made from it, and the list's first numbers are precisely the pages that differed, upward
pub record Mirrored (h : Header) (table image list : List ℕ) (count : ℕ) (after : Stored) : Type 0 where
  pub image_is : after.image ≡ table
  pub map_is : after.map ≡ made h.n h.page.count table
  pub numbers : List ℕ
  pub list_is : after.list ≡ written list 0 numbers
  pub exactly : (k : ℕ) → Memᴰ k numbers ↔ ((k < pages h) × (page_at h.page.count table k ≢ page_at h.page.count image k))
  pub upward : Upward numbers
  pub count_is : count ≡ length numbers
