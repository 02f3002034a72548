-- What holds of every load: no second answer, refusals exactly when the table says, and nothing but what the image holds handed out.
-- Assumes nothing.
use mathlib.Core.Path.{◌≡◌, refl, sym, ap, ◌∙◌}
use mathlib.Core.Logic.{◌↔◌}
use mathlib.Core.List.{List, []}
use Prim.Native.Nat.{ℕ, ◌-◌, ◌*◌, ◌<◌, min}
use native.Mathlib.Omega.{arith}
use lib.ListN.{length}
use borrow.Author.Tests.{leb-false}
use Rattle.units.specs.Answers.{OneAnswer}
use Rattle.units.specs.Filling.{outcome, told}
use Rattle.units.specs.Refusals.{first}
use Rattle.units.specs.declared.Bytes.{Bytes}
use Rattle.units.specs.Filling.{Filled}
use Rattle.units.specs.declared.Refusal.{Refusal}
use Rattle.units.specs.Refusals.{Verdict}
use Rattle.units.proofs.Filling.{filling_refused, filling_refused_keeps}
use Rattle.units.proofs.Refusing.{Quiet, Lowest, allowed_when, lowest_given}
use Rattle.units.proofs.Writing.{written_whole}
use Rattle.map.specs.Buckets.{page_at}
use Rattle.map.specs.Files.{pages}
use Rattle.map.specs.Reading.{header_of}
use Rattle.map.specs.declared.Header.{Header}
use Rattle.map.proofs.Contents.{Sized}
use Rattle.map.proofs.Holding.{holds_sized}
use Rattle.backup.proofs.Bounds.{some_page, page_starts}
use Rattle.backup.proofs.Opened.{Usable, quiet_usable}
use Rattle.backup.proofs.Pages.{page_length}
use Rattle.load.specs.Loads.{page_tests, load_tests, asking, part_unless, loaded_page, bucket_tests, load_bucket_tests, loading}
use Rattle.load.proofs.ask_page.Reads as AskPage
use Rattle.load.proofs.load_bucket.Reads as LoadBucket
use Rattle.load.proofs.load_page.Reads as LoadPage
use Rattle.load.proofs.open_page.Reads as OpenPage
use Rattle.std.specs.Prelude.{Ok, Err}
use Rattle.units.specs.Refusals.{allowed, refused}

-- ---- no second answer; of an empty part the contract says that it is empty, and not where it stands

pub load_page_one_answer : (κs : _) (a : _) (r s : _) (x y : _) → LoadPage.Post κs a r x → LoadPage.Post κs a s y → r.now ≡ s.now
load_page_one_answer κs a r s x y p q = p ∙ sym q

pub open_page_one_answer : OneAnswer OpenPage.Post
open_page_one_answer κs a r s x y p q = p ∙ sym q

pub ask_page_one_answer : OneAnswer AskPage.Post
ask_page_one_answer κs a r s x y p q = p ∙ sym q

pub load_bucket_one_answer : (κs : _) (a : _) (r s : Filled) (x y : _) → LoadBucket.Post κs a r x → LoadBucket.Post κs a s y
    → (r ≡ s) × (x.1.1.0.now ≡ y.1.1.0.now)
load_bucket_one_answer κs a r s x y p q = let same : _ = p ∙ sym q in (ap (λ o. o.answer) same, ap (λ o. o.output) same)

-- ---- one page

module _ (image map : List ℕ) (k : ℕ) where
  pub ask_refused : (r : Refusal) → (asking image map k ≡ refused r) ↔ Lowest (load_tests image map k) r
  unfolding asking
  ask_refused r = lowest_given (load_tests image map k) tt r

  -- the image's own page, exactly when the question finds no refusal
  pub load_gives : asking image map k ≡ allowed → loaded_page image map k ≡ page_at (header_of map).page.count image k
  unfolding loaded_page
  load_gives e = ap (λ (v : Verdict). part_unless v (page_at (header_of map).page.count image k)) e

  pub load_refused : (r : Refusal) → asking image map k ≡ refused r → loaded_page image map k ≡ []
  unfolding loaded_page
  load_refused r e = ap (λ (v : Verdict). part_unless v (page_at (header_of map).page.count image k)) e

  -- a page has a first byte, and the image has it
  first_byte : asking image map k ≡ allowed → (0 < (header_of map).page.count) × (k * (header_of map).page.count < length image)
  unfolding asking
  first_byte e =
      let q : Quiet (load_tests image map k) = (allowed_when (load_tests image map k)).0 e in
      let h : Header = header_of map in
      let u : Usable (length image) (length image) map h = quiet_usable (length image) (length image) map (λ g. page_tests g image map k) e in
      let inside : k < pages h = leb-false _ _ q.1.1.0 in
      let sized : Sized h = holds_sized map h u.holds in
      let starts : k * h.page.count < h.bucket.count = page_starts h sized k inside in
      (some_page h sized, omega (arith, u.one_fits))

  pub load_starts : asking image map k ≡ allowed → k * (header_of map).page.count < length image
  load_starts e = (first_byte e).1

  -- an empty part is always a refusal
  pub load_some : asking image map k ≡ allowed → 0 < length (loaded_page image map k)
  load_some e =
      let page : ℕ = (header_of map).page.count in
      let long : length (page_at page image k) ≡ min page (length image - k * page) = page_length page image k in
      let (some, starts) = first_byte e in
      omega (arith, ap length (load_gives e))

-- ---- the bucket

module _ (image map table : List ℕ) where
  pub load_bucket_refused : (r : Refusal) → (told (loading image map table).answer ≡ refused r) ↔ Lowest (load_bucket_tests image map table) r
  unfolding loading
  load_bucket_refused = filling_refused (length image) image table (load_bucket_tests image map table) tt

  pub load_bucket_refused_keeps : (r : Refusal) → told (loading image map table).answer ≡ refused r → (loading image map table).output ≡ table
  unfolding loading
  load_bucket_refused_keeps = filling_refused_keeps (length image) image table (load_bucket_tests image map table)

  written_told : (v : Verdict) (b : Bytes) → (outcome v (length image) image table).answer ≡ Ok b → (v ≡ allowed) × (b.count ≡ length image)
  written_told (Ok _) b e = (refl, sym (ap count e))
    where
      count : Filled → ℕ
      count (Ok x) = x.count
      count (Err r) = 0
  written_told (Err r) b e = let z : ◌≡◌ {A = ℕ} 0 1 = cc in absurd (omega arith)

  -- a load that is not refused leaves the image's bytes in the table, and answers how many they are
  pub load_bucket_gives : (b : Bytes) → (loading image map table).answer ≡ Ok b → ((loading image map table).output ≡ image) × (b.count ≡ length image)
  unfolding loading
  load_bucket_gives b e =
      let both : (first (load_bucket_tests image map table) ≡ allowed) × (b.count ≡ length image) = written_told (first (load_bucket_tests image map table)) b e in
      let u : Usable (length table) (length image) map (header_of map) =
      quiet_usable (length table) (length image) map (λ g. bucket_tests g image map) both.0 in
      (ap (λ (v : Verdict). (outcome v (length image) image table).output) both.0 ∙ written_whole table image (u.other_fits ∙ sym u.one_fits), both.1)
