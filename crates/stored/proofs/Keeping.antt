-- A map that held the image's signatures holds them again after any step and any store, whatever stands in the table.
-- Assumes nothing.
use mathlib.Core.Path.{◌≡◌, refl, sym, ap, ap₂, ◌∙◌, subst}
use mathlib.Core.Logic.{dite}
use mathlib.Core.Bool.{Bool, true, false, cond}
use mathlib.Core.List.{List, []}
use Prim.Native.Nat.{ℕ, zero, suc, ◌≤◌, ◌<◌}
use native.Mathlib.Nat.{le_refl}
use native.Mathlib.Decide.{ℕ_discrete}
use native.Mathlib.Omega.{arith}
use lib.Dec.{eqb}
use lib.ListN.{length}
use borrow.Author.Tests.{eqb-false, ltb-false}
use Rattle.units.specs.Refusals.{first}
use Rattle.units.specs.Refusals.{Verdict}
use Rattle.units.proofs.Refusing.{Quiet, allowed_when}
use Rattle.signature.specs.Kinds.{wide}
use Rattle.signature.specs.Objects.{Octets}
use Rattle.signature.specs.Operations.{own}
use Rattle.map.specs.Buckets.{page_at}
use Rattle.map.specs.Files.{pages, file}
use Rattle.map.specs.Making.{made_entry, made_header, made}
use Rattle.map.specs.Reading.{header_of, entry_at}
use Rattle.map.specs.declared.Entry.{Entry}
use Rattle.map.specs.declared.Header.{Header}
use Rattle.map.proofs.Contents.{Sized, file_read, entry_read}
use Rattle.map.proofs.Holding.{holds_header, holds_sized, holds_held}
use Rattle.map.proofs.Maps.{made_reads, made_entry_reads}
use Rattle.map.proofs.Readback.{file_of_reading}
use Rattle.backup.specs.Backups.{Backup, backup_in, agrees, page_stored, stored}
use Rattle.backup.proofs.Alike.{same_file}
use Rattle.backup.proofs.Bounds.{some_page}
use Rattle.backup.proofs.Entered.{AllHeld}
use Rattle.backup.proofs.Opened.{Usable, quiet_usable}
use Rattle.backup.proofs.Storing.{stored_entry, stored_entry_else, stored_length, stored_page, stored_page_else, page_held, next_stored, none_stored, all_length, all_held}
use Rattle.store.specs.Steps.{staying, passing, step_unless, place_tests, step_tests, stepping}
use Rattle.store.specs.Stores.{list_tests, store_unless, store_tests, storing}
use Rattle.store.specs.declared.Answer.TheVariants.{Finished}
use Rattle.store.specs.declared.Place.{Place}
use Rattle.stored.specs.Signing.{Signs, Signed}
use Rattle.std.specs.Prelude.{Ok, Err}

made_signs : (n page : ℕ) (bucket : List ℕ) (k : ℕ) → (made_entry n page bucket k).signature ≡ own wide n (page_at page bucket k)
unfolding made_entry
made_signs n page bucket k = refl

-- ---- a map holds the image's signatures exactly when it is the one made from the image

pub made_signed : (n page : ℕ) (image : List ℕ) → Octets image → Sized (made_header n page image) → Signed (made_header n page image) image (made n page image)
made_signed n page image octets sized =
    record {
      holds = made_reads n page image [] octets sized;
      long = refl;
      signs = λ k inside. ap (λ (e : Entry). e.signature) (made_entry_reads n page image [] octets sized k inside) ∙ made_signs n page image k;
    }

pub signed_made : (h : Header) (image map : List ℕ) → Octets map → Signed h image map → map ≡ made h.n h.page.count image
unfolding made made_entry
signed_made h image map octets signed =
    sym (file_of_reading map octets h signed.holds)
    ∙ same_file h (entry_at h.n map) (made_entry h.n h.page.count image)
    (λ k inside.
    ap₂ {C = Entry} (λ t s. record { tag = t; signature = s }) (holds_held map h signed.holds octets k inside).tagged_04 (signed.signs k inside))
    ∙ sym (ap {B = List ℕ} (λ (l : ℕ). file (record { n = h.n; page = h.page; bucket = record { count = l } }) (made_entry h.n h.page.count image)) signed.long)

-- ---- one page

module _ (h : Header) (some : 0 < h.page.count) (table : List ℕ) (b : Backup) (k : ℕ) (table_length : length table ≡ h.bucket.count)
    (image_length : length b.image ≡ h.bucket.count) (inside : k < pages h) (signs : Signs h b.image b.entry) where
  either : (t : Bool) → (cond t (b.entry k) (made_entry h.n h.page.count table k)).signature
      ≡ own wide h.n (cond t (page_at h.page.count b.image k) (page_at h.page.count table k))
  either true = signs k inside
  either false = made_signs h.n h.page.count table k

  pub page_signs : Signs h (page_stored h table b k).image (page_stored h table b k).entry
  page_signs i below =
      dite (ℕ_discrete i k)
      (λ (is : i ≡ k).
      ap (λ (j : ℕ). ((page_stored h table b k).entry j).signature) is
      ∙ ap (λ (e : Entry). e.signature) (stored_entry h table b k)
      ∙ either (agrees h b.entry table k)
      ∙ ap (own wide h.n) (sym (stored_page h some table b k table_length image_length inside))
      ∙ ap (λ (j : ℕ). own wide h.n (page_at h.page.count (page_stored h table b k).image j)) (sym is))
      (λ (other : i ≡ k → ⊥).
      ap (λ (e : Entry). e.signature) (stored_entry_else h table b k i other)
      ∙ signs i below
      ∙ ap (own wide h.n) (sym (stored_page_else h some table b k table_length image_length inside i other)))

-- ---- image and map

module _ (h : Header) (table image map : List ℕ) (table_octets : Octets table) (map_octets : Octets map) (signed : Signed h image map) where
  sized : Sized h
  sized = holds_sized map h signed.holds

  held : AllHeld h (entry_at h.n map)
  held = holds_held map h signed.holds map_octets

  -- what a backup holds, in its file
  filed : (b : Backup) → AllHeld h b.entry → length b.image ≡ h.bucket.count → Signs h b.image b.entry → Signed h b.image (file h b.entry)
  filed b good long signs =
      record {
        holds = file_read h b.entry sized good;
        long = long;
        signs = λ k inside. ap (λ (e : Entry). e.signature) (entry_read h b.entry sized good k inside) ∙ signs k inside;
      }

  module _ (table_length : length table ≡ h.bucket.count) where
    passing_signed : (k : ℕ) → k < pages h → Signed h (passing h table image map k).image (passing h table image map k).map
    unfolding passing
    passing_signed k inside =
        let b : Backup = backup_in h.n image map in
        filed (page_stored h table b k) (page_held h table table_octets b k held)
        (stored_length h (some_page h sized) table b k table_length signed.long inside)
        (page_signs h (some_page h sized) table b k table_length signed.long inside signed.signs)

    pages_signed : (m : ℕ) → m ≤ pages h → Signs h (stored h table (backup_in h.n image map) m).image (stored h table (backup_in h.n image map) m).entry
    pages_signed zero most = subst (λ (b : Backup). Signs h b.image b.entry) (sym (none_stored h table (backup_in h.n image map))) signed.signs
    pages_signed (suc m) most =
        subst (λ (b : Backup). Signs h b.image b.entry) (sym (next_stored h table (backup_in h.n image map) m))
        (page_signs h (some_page h sized) table (stored h table (backup_in h.n image map) m) m table_length
        (all_length h table (backup_in h.n image map) (some_page h sized) table_length signed.long m (omega arith)) (omega arith) (pages_signed m (omega arith)))

    stored_signed : Signed h (stored h table (backup_in h.n image map) (pages h)).image (file h (stored h table (backup_in h.n image map) (pages h)).entry)
    stored_signed =
        filed (stored h table (backup_in h.n image map) (pages h)) (all_held h table (backup_in h.n image map) table_octets held (pages h))
        (all_length h table (backup_in h.n image map) (some_page h sized) table_length signed.long (pages h) (le_refl (pages h)))
        (pages_signed (pages h) (le_refl (pages h)))

  -- ---- any step

  pub step_signed : (place : Place) → Signed h (stepping table image map place).image (stepping table image map place).map
  unfolding stepping
  step_signed place =
      subst (λ (g : Header). Signed h (step_unless (first (step_tests table image map place.page)) g table image map place).image
      (step_unless (first (step_tests table image map place.page)) g table image map place).map) (sym (holds_header map h signed.holds))
      (at (first (step_tests table image map place.page)) refl)
    where
      here : (t : Bool) → eqb place.page (pages h) ≡ t → length table ≡ h.bucket.count → place.page ≤ pages h
          → Signed h (cond t (staying (Ok Finished) place image map) (passing h table image map place.page)).image
          (cond t (staying (Ok Finished) place image map) (passing h table image map place.page)).map
      here true e long within = signed
      here false e long within =
          let apart : place.page ≡ pages h → ⊥ = eqb-false _ _ e in
          passing_signed long place.page (omega arith)

      at : (v : Verdict) → first (step_tests table image map place.page) ≡ v
          → Signed h (step_unless v h table image map place).image (step_unless v h table image map place).map
      at (Err r) e = signed
      at (Ok _) e =
          let g : header_of map ≡ h = holds_header map h signed.holds in
          let q : Quiet (step_tests table image map place.page) = (allowed_when (step_tests table image map place.page)).0 e in
          let u : Usable (length table) (length image) map (header_of map) = quiet_usable (length table) (length image) map (λ x. place_tests x place.page) e in
          let within : place.page ≤ pages (header_of map) = ltb-false _ _ q.1.1.0 in
          here (eqb place.page (pages h)) refl (u.one_fits ∙ ap (λ (x : Header). x.bucket.count) g) (subst (λ (x : Header). place.page ≤ pages x) g within)

  -- ---- any store

  pub store_signed : (list : List ℕ) → Signed h (storing table image map list).image (storing table image map list).map
  unfolding storing
  store_signed list =
      subst (λ (g : Header). Signed h (store_unless (first (store_tests table image map list)) g table image map list).image
      (store_unless (first (store_tests table image map list)) g table image map list).map) (sym (holds_header map h signed.holds))
      (at (first (store_tests table image map list)) refl)
    where
      at : (v : Verdict) → first (store_tests table image map list) ≡ v
          → Signed h (store_unless v h table image map list).image (store_unless v h table image map list).map
      at (Err r) e = signed
      at (Ok _) e =
          let u : Usable (length table) (length image) map (header_of map) = quiet_usable (length table) (length image) map (λ x. list_tests x list) e in
          stored_signed (u.one_fits ∙ ap (λ (x : Header). x.bucket.count) (holds_header map h signed.holds))
