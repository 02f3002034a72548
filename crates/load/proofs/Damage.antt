-- An image page that differs in 1 to n symbols from the page whose signature its entry holds is always refused as DAMAGED.
-- Assumes nothing.
use Rattle.std.specs.Prelude.{Ok}
use mathlib.Core.Path.{◌≡◌, refl, ap, ◌∙◌}
use mathlib.Core.Bool.{Bool, true, false, not}
use mathlib.Core.List.{List}
use Prim.Native.Nat.{ℕ, ◌+◌, ◌-◌, ◌*◌, ◌≤◌, ◌<◌, min}
use native.Mathlib.Omega.{arith}
use lib.ListN.{length}
use borrow.Author.Tests.{lt-leb, lt-ltb}
use Rattle.units.specs.Filling.{outcome}
use Rattle.units.specs.Refusals.{first}
use Rattle.units.specs.Refusals.{Verdict}
use Rattle.units.proofs.First.{first_before, first_named_lem, first_lowest}
use Rattle.signature.specs.Differences.{differing}
use Rattle.signature.specs.Kinds.{wide}
use Rattle.signature.specs.Objects.{Octets, symbols}
use Rattle.signature.specs.Operations.{own}
use Rattle.signature.proofs.EveryKind.{wide_sound, own_apart}
use Rattle.map.specs.Buckets.{page_at}
use Rattle.map.specs.Files.{pages}
use Rattle.map.specs.Reading.{reading, entry_at}
use Rattle.map.specs.declared.Header.{Header}
use Rattle.map.proofs.Contents.{Sized}
use Rattle.map.proofs.Holding.{holds_sized}
use Rattle.map.proofs.MadeMaps.{n_most, page_most}
use Rattle.map.proofs.Octets.{page_octets}
use Rattle.backup.specs.Backups.{agrees}
use Rattle.backup.proofs.Opened.{Usable, holds_usable}
use Rattle.backup.proofs.Pages.{page_length}
use Rattle.backup.proofs.Sameness.{agrees_is}
use Rattle.load.specs.Loads.{damaged, page_tests, asking, lowest_damaged, bucket_tests, loading}
use Rattle.std.specs.Prelude.{Err}
use Rattle.units.specs.Refusals.{refused}
use Rattle.units.specs.declared.Refusal.{Refusal}

module _ (h : Header) (image map : List ℕ) (octets : Octets image) (holds : reading map ≡ Ok h) (long : length image ≡ h.bucket.count)
    (k : ℕ) (inside : k < pages h)
    -- the page that was stored, and its entry
    (page : List ℕ) (page-octets' : Octets page) (as_long : length (page_at h.page.count image k) ≡ length page)
    (entry : (entry_at h.n map k).signature ≡ own wide h.n page)
    -- what became of it
    (some : 1 ≤ differing 2 (page_at h.page.count image k) page) (few : differing 2 (page_at h.page.count image k) page ≤ h.n) where
  sized : Sized h
  sized = holds_sized map h holds

  found : damaged h image map k ≡ true
  found = at (agrees h (entry_at h.n map) image k) refl
    where
      at : (t : Bool) → agrees h (entry_at h.n map) image k ≡ t → not t ≡ true
      at true e =
          let most : h.page.count ≤ 65536 = page_most h.page.count sized.page_fits in
          let size : length (page_at h.page.count image k) ≡ min h.page.count (length image - k * h.page.count) = page_length h.page.count image k in
          let short : symbols 2 (page_at h.page.count image k) ≤ wide.most = omega arith in
          absurd
          (own_apart wide wide_sound h.n (n_most h.n sized.n_fits) (page_at h.page.count image k) page (page_octets _ image k octets) page-octets' as_long short
          some few (agrees_is h (entry_at h.n map) image k e ∙ entry))
      at false e = refl

  pub page_damaged : asking image map k ≡ refused (Refusal.Damaged k)
  unfolding asking
  page_damaged =
      let u : Usable (length image) (length image) map h = holds_usable (length image) (length image) map h holds long long in
      let so : first (page_tests h image map k) ≡ refused (Refusal.Damaged k) = simp (lt-leb _ _ inside, found) in
      u.rest (λ g. page_tests g image map k) ∙ so

  -- the bucket's load names the lowest such page
  pub bucket_damaged : (table : List ℕ) → length table ≡ h.bucket.count
      → ((loading image map table).answer ≡ Err (Refusal.Damaged (lowest_damaged h image map))) × (lowest_damaged h image map ≤ k)
  unfolding loading
  bucket_damaged table table-long =
      let u : Usable (length table) (length image) map h = holds_usable (length table) (length image) map h holds table-long long in
      let reach : k < 0 + pages h = omega arith in
      let low : lowest_damaged h image map ≤ k = first_before (damaged h image map) (pages h) 0 k (omega arith) reach found in
      let below : lowest_damaged h image map < pages h = omega arith in
      let so : first (bucket_tests h image map) ≡ refused (Refusal.Damaged (lowest_damaged h image map)) = simp (lt-ltb _ _ below) in
      (ap (λ (v : Verdict). (outcome v (length image) image table).answer) (u.rest (λ g. bucket_tests g image map) ∙ so), low)

-- the page that a bucket's load names is damaged, and none below it is
pub lowest_damaged_lem : (h : Header) (image map : List ℕ) → lowest_damaged h image map < pages h
    → (damaged h image map (lowest_damaged h image map) ≡ true) × ((i : ℕ) → i < lowest_damaged h image map → damaged h image map i ≡ false)
lowest_damaged_lem h image map below = (
  first_named_lem (damaged h image map) (pages h) 0 (omega arith),
  λ i low. first_lowest (damaged h image map) (pages h) 0 i (omega arith) low,
)
