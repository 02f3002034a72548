-- A store underway: what image, map and list hold when the first k pages are through, and that a step takes it on by one.
-- Assumes nothing.
use mathlib.Core.Path.{◌≡◌, sym, ap, ap₂, ◌∙◌, subst}
use mathlib.Core.Logic.{dite, ◌⊎◌, inl, inr, ⊎_elim}
use mathlib.Core.Bool.{Bool, true, false, not}
use mathlib.Core.List.{List}
use Prim.Native.Nat.{ℕ, suc, ◌+◌, ◌≤◌, ◌<◌}
use native.Mathlib.Nat.{le_refl}
use native.Mathlib.Decide.{dec_lt}
use native.Mathlib.Omega.{arith}
use lib.ListN.{length, set}
use borrow.Author.Tests.{le-ltb, lt-ltb, eq-eqb, ne_eqb}
use Rattle.units.specs.Refusals.{Verdict}
use Rattle.units.proofs.Noting as Noting
use Rattle.signature.specs.Objects.{Octets}
use Rattle.map.specs.Files.{pages, file}
use Rattle.map.specs.Reading.{reading, entry_at}
use Rattle.map.specs.declared.Header.{Header}
use Rattle.map.proofs.Contents.{Sized, file_length, file_read, entry_read}
use Rattle.map.proofs.Holding.{holds_header, holds_sized, holds_held, holds_length}
use Rattle.map.proofs.Readback.{file_of_reading}
use Rattle.backup.specs.Backups.{Backup, backup_in, agrees, page_stored, stored, changed}
use Rattle.backup.proofs.Alike.{SameEntries, same_agrees, same_file, alike_image, alike_entries}
use Rattle.backup.proofs.Bounds.{some_page}
use Rattle.backup.proofs.Entered.{AllHeld}
use Rattle.backup.proofs.Opened.{Usable, holds_usable}
use Rattle.backup.proofs.Storing.{none_stored, next_stored, ahead_entry, all_length, all_held}
use Rattle.store.specs.Steps.{Stepped, stepped_of, page_answer, passed_to, passing, staying, place_tests, step_unless, open_step, stepping}
use Rattle.store.specs.Stores.{stored_of, stored_to, open_store}
use Rattle.store.specs.declared.Answer.TheVariants.{Kept, Written, Finished}
use Rattle.store.specs.declared.Place.{Place}
use Rattle.store.specs.declared.Answer.{Answer}
use Rattle.store.specs.declared.Step.{Step}
use Rattle.store.proofs.Tags.{told_kept, told_written, told_not_finished}
use Rattle.std.specs.Prelude.{Ok, Err}
use Rattle.units.specs.declared.Refusal.{Refusal}

-- the first k pages are through
pub record Through (h : Header) (table image₀ map₀ : List ℕ) (k : ℕ) (image map : List ℕ) : Type 0 where
  pub within : k ≤ pages h
  pub image_is : image ≡ (stored h table (backup_in h.n image₀ map₀) k).image
  pub map_is : map ≡ file h (stored h table (backup_in h.n image₀ map₀) k).entry

-- a list without room for every page is refused
pub no_room : (h : Header) (table image map list : List ℕ) {count : ℕ} → count ≡ pages h → length list < count
    → stored_of (Err (Refusal.Room count)) image map list ≡ open_store h table image map list
unfolding open_store
no_room h table image map list is short =
    let few : length list < pages h = omega (arith, is) in
    ap (λ (k : ℕ). stored_of (Err (Refusal.Room k)) image map list) is ∙ sym (simp (lt-ltb _ _ few))

-- what a store may start from
pub record Ready (h : Header) (table image map : List ℕ) : Type 0 where
  pub table_octets : Octets table
  pub map_octets : Octets map
  pub holds : reading map ≡ Ok h
  pub table_length : length table ≡ h.bucket.count
  pub image_length : length image ≡ h.bucket.count

module _ {h : Header} {table image₀ map₀ : List ℕ} (ready : Ready h table image₀ map₀) where
  sized : Sized h
  sized = holds_sized map₀ h ready.holds

  held : (k : ℕ) → AllHeld h (stored h table (backup_in h.n image₀ map₀) k).entry
  held = all_held h table (backup_in h.n image₀ map₀) ready.table_octets (holds_held map₀ h ready.holds ready.map_octets)

  pub none_through : Through h table image₀ map₀ 0 image₀ map₀
  none_through =
      record {
        within = omega arith;
        image_is = sym (ap (λ (b : Backup). b.image) (none_stored h table (backup_in h.n image₀ map₀)));
        map_is =
            sym (ap (λ (b : Backup). file h b.entry) (none_stored h table (backup_in h.n image₀ map₀)) ∙ file_of_reading map₀ ready.map_octets h ready.holds);
      }

  module _ {k : ℕ} {image map : List ℕ} (t : Through h table image₀ map₀ k image map) where
    pub through_reads : reading map ≡ Ok h
    through_reads = ap reading t.map_is ∙ file_read h _ sized (held k)

    pub through_length : length image ≡ h.bucket.count
    through_length =
        ap length t.image_is ∙ all_length h table (backup_in h.n image₀ map₀) (some_page h sized) ready.table_length ready.image_length k t.within

    pub through_map_length : length map ≡ length map₀
    through_map_length = ap length t.map_is ∙ file_length h _ sized (held k) ∙ sym (holds_length map₀ h ready.holds)

    entries : SameEntries h (entry_at h.n map) (stored h table (backup_in h.n image₀ map₀) k).entry
    entries i inside = ap (λ (l : List ℕ). entry_at h.n l i) t.map_is ∙ entry_read h _ sized (held k) i inside

    -- a page on the way is passed as the definition has it
    through_passing : k < pages h
        → passing h table image map k
        ≡ passed_to h (page_answer k (agrees h (entry_at h.n map₀) table k)) k (stored h table (backup_in h.n image₀ map₀) (suc k))
    unfolding passing
    through_passing inside =
        let here : entry_at h.n map k ≡ entry_at h.n map₀ k = entries k inside ∙ ahead_entry h table (backup_in h.n image₀ map₀) k k (le_refl k) in
        let b : Backup = stored h table (backup_in h.n image₀ map₀) k in
        let next : page_stored h table b k ≡ stored h table (backup_in h.n image₀ map₀) (suc k) = sym (next_stored h table (backup_in h.n image₀ map₀) k) in
        ap₂ {C = Stepped}
        (λ (i m : List ℕ). record { answer = Ok (page_answer k (agrees h (entry_at h.n map) table k)); next = record { page = suc k }; image = i; map = m })
        (alike_image h table (backup_in h.n image map) b t.image_is entries k inside)
        (same_file h _ _ (alike_entries h table (backup_in h.n image map) b t.image_is entries k inside))
        ∙ ap₂ (λ (t : Bool) (a : Backup). passed_to h (page_answer k t) k a) (same_agrees h _ _ table k here) next

    -- a step at the place k

    module _ {s : Step} {image' map' : List ℕ} (e : stepped_of s image' map' ≡ open_step h table image map (record { page = k })) where
      on : k < pages h
          → stepped_of s image' map'
          ≡ passed_to h (page_answer k (agrees h (entry_at h.n map₀) table k)) k (stored h table (backup_in h.n image₀ map₀) (suc k))
      unfolding open_step
      on inside =
          let below : k ≤ pages h = omega arith in
          let apart : k ≡ pages h → ⊥ = omega arith in
          let so : open_step h table image map (record { page = k }) ≡ passing h table image map k = simp (le-ltb _ _ below, ne_eqb _ _ apart) in
          e ∙ so ∙ through_passing inside

      stop : k ≡ pages h → stepped_of s image' map' ≡ staying (Ok Finished) (record { page = k }) image map
      unfolding open_step
      stop all = let below : k ≤ pages h = omega arith in e ∙ simp (le-ltb _ _ below, eq-eqb _ _ all)

      pub record Passed : Type 0 where
        pub inside : k < pages h
        pub up : s.next.page ≡ suc k
        pub next : Through h table image₀ map₀ s.next.page image' map'
        pub told : s.answer ≡ Ok (page_answer k (agrees h (entry_at h.n map₀) table k))

      pub record Done : Type 0 where
        pub all : k ≡ pages h
        pub told : s.answer ≡ Ok Finished
        pub image_kept : image' ≡ image
        pub map_kept : map' ≡ map

      passed : k < pages h → Passed
      passed inside =
          let p : _ = on inside in
          let up : s.next.page ≡ suc k = ap (λ (x : Stepped). x.next.page) p in
          let next : Through h table image₀ map₀ (suc k) image' map' =
          record { within = omega arith; image_is = ap (λ (x : Stepped). x.image) p; map_is = ap (λ (x : Stepped). x.map) p } in
          record {
            inside = inside;
            up = up;
            next = subst (λ (i : ℕ). Through h table image₀ map₀ i image' map') (sym up) next;
            told = ap (λ (x : Stepped). x.answer) p;
          }

      done : k ≡ pages h → Done
      done all =
          let p : _ = stop all in
          record {
            all = all;
            told = ap (λ (x : Stepped). x.answer) p;
            image_kept = ap (λ (x : Stepped). x.image) p;
            map_kept = ap (λ (x : Stepped). x.map) p;
          }

      -- the page at the place is passed, or the store is finished
      pub taken : Passed ⊎ Done
      taken = dite (dec_lt k (pages h)) (λ (inside : k < pages h). inl (passed inside)) (λ past. inr (done (omega (arith, t.within))))

      pub on_kept : {j : ℕ} → s.answer ≡ Ok (Kept j) → Passed × (agrees h (entry_at h.n map₀) table k ≡ true)
      on_kept {j} is =
          ⊎_elim (λ (p : Passed). (p, told_kept k _ j (sym is ∙ p.told))) (λ (d : Done). absurd (told_not_finished j true (sym is ∙ d.told))) taken

      pub on_written : {j : ℕ} → s.answer ≡ Ok (Written j) → Passed × (agrees h (entry_at h.n map₀) table k ≡ false) × (j ≡ k)
      on_written {j} is =
          ⊎_elim
          (λ (p : Passed). let w : _ = told_written k _ j (sym is ∙ p.told) in (p, w.0, w.1))
          (λ (d : Done). absurd (told_not_finished j false (sym is ∙ d.told)))
          taken

      pub on_finished : s.answer ≡ Ok Finished → Done
      on_finished is = ⊎_elim (λ (p : Passed). absurd (told_not_finished k _ (sym p.told ∙ is))) (λ (d : Done). d) taken

      pub on_refused : ((a : Answer) → s.answer ≡ Ok a → ⊥) → ⊥
      on_refused none = ⊎_elim (λ (p : Passed). none _ p.told) (λ (d : Done). none _ d.told) taken

-- ---- the list

-- the pages written so far stand at its start
pub record Noted (h : Header) (table map₀ list₀ : List ℕ) (k : ℕ) (list : List ℕ) (found : ℕ) : Type 0 where
  pub so_far : Noting.Noted (λ i. not (agrees h (entry_at h.n map₀) table i)) list₀ k list found

module _ {h : Header} {table map₀ list₀ : List ℕ} where
  pub none_noted : Noted h table map₀ list₀ 0 list₀ 0
  none_noted = record { so_far = Noting.none_noted }

  module _ {k : ℕ} {list : List ℕ} {found : ℕ} (n : Noted h table map₀ list₀ k list found) where
    pub noted_below : found ≤ k
    noted_below = Noting.noted_below n.so_far

    pub noted_length : k ≤ length list₀ → length list ≡ length list₀
    noted_length = Noting.noted_length n.so_far

    -- the next place
    pub noted_kept : {next : ℕ} → next ≡ suc k → agrees h (entry_at h.n map₀) table k ≡ true → Noted h table map₀ list₀ next list found
    noted_kept up e = record { so_far = Noting.noted_passed n.so_far up (ap not e) }

    pub noted_written : {next j : ℕ} → next ≡ suc k → j ≡ k → agrees h (entry_at h.n map₀) table k ≡ false → k < length list₀
        → Noted h table map₀ list₀ next (set list found j) (found + 1)
    noted_written up is e room = record { so_far = Noting.noted_listed n.so_far up is (ap not e) room }

-- ---- all pages are through: the store is what its definition says

pub all_through : {h : Header} {table image₀ map₀ list₀ : List ℕ} {k : ℕ} {image map list : List ℕ} {found : ℕ} → k ≡ pages h → pages h ≤ length list₀
    → Through h table image₀ map₀ k image map → Noted h table map₀ list₀ k list found → stored_of (Ok found) image map list ≡ open_store h table image₀ map₀ list₀
unfolding open_store
all_through {h} {table} {image₀} {map₀} {list₀} {k} {image} {map} {list} {found} all room t n =
    let b : Backup = backup_in h.n image₀ map₀ in
    let so : open_store h table image₀ map₀ list₀ ≡ stored_to h (stored h table b (pages h)) (changed h table (entry_at h.n map₀) (pages h)) list₀ =
    simp (le-ltb _ _ room) in
    ap₂ (λ (i m : List ℕ). stored_of (Ok found) i m list) t.image_is t.map_is
    ∙ ap₂ (λ (c : ℕ) (l : List ℕ). stored_of (Ok c) (stored h table b k).image (file h (stored h table b k).entry) l) n.so_far.found_is n.so_far.list_is
    ∙ ap (λ (i : ℕ). stored_to h (stored h table b i) (changed h table (entry_at h.n map₀) i) list₀) all
    ∙ sym so

-- the public step is the step on an opened backup, where the map reads and the lengths agree
pub step_opens : (h : Header) (table image map : List ℕ) (place : Place) → reading map ≡ Ok h → length table ≡ h.bucket.count → length image ≡ h.bucket.count
    → stepping table image map place ≡ open_step h table image map place
unfolding stepping open_step
step_opens h table image map place holds table_length image_length =
    let u : Usable (length table) (length image) map h = holds_usable (length table) (length image) map h holds table_length image_length in
    ap₂ (λ (v : Verdict) (g : Header). step_unless v g table image map place) (u.rest (λ g. place_tests g place.page)) (holds_header map h holds)
