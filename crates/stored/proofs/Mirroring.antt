-- Demand 3, second half: where no page of the table differs from its image page in more than n symbols, a store leaves the image equal to the
-- table and the map as one made from it, and lists precisely the pages that differed.
-- Assumes nothing.
use mathlib.Core.Path.{◌≡◌, refl, sym, ap, ap₂, ◌∙◌, subst}
use mathlib.Core.Logic.{◌↔◌, ◌≢◌}
use mathlib.Core.Bool.{Bool, true, false, not, cond}
use mathlib.Core.List.{List, Memᴰ}
use Prim.Native.Nat.{ℕ, ◌+◌, ◌-◌, ◌*◌, ◌≤◌, ◌<◌, min}
use native.Mathlib.Nat.{le_refl, zero-add}
use native.Mathlib.Omega.{arith}
use lib.ListN.{length, take, drop}
use borrow.Author.Tests.{not-true, ltb-false}
use Rattle.units.specs.Counts.{pages_in}
use Rattle.units.specs.Refusals.{first}
use Rattle.units.specs.Writing.{written}
use Rattle.units.specs.Refusals.{Verdict}
use Rattle.units.proofs.Naming.{named_length, named_exactly, named_upward}
use Rattle.units.proofs.Refusing.{Quiet, allowed_when, not_both}
use Rattle.units.proofs.Writing.{written_inside, written_after}
use Rattle.signature.specs.Kinds.{wide}
use Rattle.signature.specs.Objects.{Octets, symbols}
use Rattle.signature.specs.Operations.{own}
use Rattle.signature.proofs.EveryKind.{wide_sound, own_tells}
use Rattle.map.specs.Buckets.{page_at}
use Rattle.map.specs.Files.{pages, file}
use Rattle.map.specs.Making.{made_entry, made}
use Rattle.map.specs.Reading.{header_of, reading, entry_at}
use Rattle.map.specs.declared.Entry.{Entry}
use Rattle.map.specs.declared.Header.{Header}
use Rattle.map.proofs.Contents.{Sized, entry_read}
use Rattle.map.proofs.Holding.{holds_header, holds_sized, holds_held}
use Rattle.map.proofs.MadeMaps.{n_most, page_most}
use Rattle.map.proofs.Octets.{page_octets}
use Rattle.backup.specs.Backups.{Backup, backup_in, agrees, stored, changed}
use Rattle.backup.proofs.Alike.{same_file}
use Rattle.backup.proofs.Bounds.{some_page}
use Rattle.backup.proofs.Entered.{AllHeld}
use Rattle.backup.proofs.Opened.{Usable, quiet_usable}
use Rattle.backup.proofs.Pages.{page_length, pages_whole}
use Rattle.backup.proofs.Sameness.{agrees_is, is_agrees}
use Rattle.backup.proofs.Storing.{page_after, entry_after, passed_entry, passed_page, all_length, all_held}
use Rattle.store.specs.Stores.{Stored, stored_to, list_tests, store_unless, store_tests, storing}
use Rattle.store.proofs.Answers.{store_allowed}
use Rattle.stored.specs.Mirrors.{FewDiffer, Mirrored}
use Rattle.stored.specs.Signing.{Signs, Signed}
use Rattle.std.specs.Prelude.{Ok, Err}
use Rattle.units.specs.Refusals.{allowed}
use Rattle.units.specs.Naming.{Listed}

-- what a store that was allowed leaves
module _ (h : Header) (table image map list : List ℕ) (holds : reading map ≡ Ok h) (count : ℕ) (answer : (storing table image map list).answer ≡ Ok count) where
  passes : first (store_tests table image map list) ≡ allowed
  passes = store_allowed table image map list count answer

  pub store_usable : Usable (length table) (length image) map h
  store_usable =
      subst (Usable (length table) (length image) map) (holds_header map h holds) (quiet_usable (length table) (length image) map (λ g. list_tests g list) passes)

  pub store_leaves : storing table image map list
      ≡ stored_to h (stored h table (backup_in h.n image map) (pages h)) (changed h table (entry_at h.n map) (pages h)) list
  unfolding storing
  store_leaves = ap₂ (λ (v : Verdict) (g : Header). store_unless v g table image map list) passes (holds_header map h holds)

  pub store_counts : count ≡ length (changed h table (entry_at h.n map) (pages h))
  store_counts = ap count_in (sym answer ∙ ap (λ (s : Stored). s.answer) store_leaves)
    where
      count_in : Listed → ℕ
      count_in (Ok k) = k
      count_in (Err r) = 0

  -- ---- the list: the numbers stand at its start, and past them it is as it was

  numbers_fit : 0 + length (changed h table (entry_at h.n map) (pages h)) ≤ length list
  numbers_fit =
      let q : Quiet (store_tests table image map list) = (allowed_when (store_tests table image map list)).0 passes in
      let room : pages (header_of map) ≤ length list = ltb-false _ _ q.1.1.0 in
      let enough : pages h ≤ length list = subst (λ (g : Header). pages g ≤ length list) (holds_header map h holds) room in
      omega (arith, named_length (λ i. not (agrees h (entry_at h.n map) table i)) (pages h))

  pub store_lists : take count (storing table image map list).list ≡ changed h table (entry_at h.n map) (pages h)
  store_lists =
      ap₂ (λ (n : ℕ) (s : Stored). take n s.list) store_counts store_leaves
      ∙ written_inside list 0 (changed h table (entry_at h.n map) (pages h)) numbers_fit

  pub store_keeps_after : drop count (storing table image map list).list ≡ drop count list
  store_keeps_after =
      let end : 0 + length (changed h table (entry_at h.n map) (pages h)) ≡ count = zero-add _ ∙ sym store_counts in
      ap (λ (s : Stored). drop count s.list) store_leaves
      ∙ ap (λ (n : ℕ). drop n (written list 0 (changed h table (entry_at h.n map) (pages h)))) (sym end)
      ∙ written_after list 0 (changed h table (entry_at h.n map) (pages h)) numbers_fit
      ∙ ap (λ (n : ℕ). drop n list) end

  -- ---- page by page and entry by entry, from what stood there: a store looks at the table and the entries only

  pub store_page : (k : ℕ) → k < pages h → page_at h.page.count (storing table image map list).image k ≡ page_after h table (backup_in h.n image map) k
  store_page k inside =
      ap (λ (s : Stored). page_at h.page.count s.image k) store_leaves
      ∙ passed_page h table (backup_in h.n image map) (some_page h (holds_sized map h holds)) store_usable.one_fits store_usable.other_fits (pages h)
      (le_refl (pages h)) k inside

  pub store_entry : Octets table → Octets map → (k : ℕ) → k < pages h
      → entry_at h.n (storing table image map list).map k ≡ entry_after h table (backup_in h.n image map) k
  store_entry table_octets map_octets k inside =
      let b : Backup = backup_in h.n image map in
      ap (λ (s : Stored). entry_at h.n s.map k) store_leaves
      ∙ entry_read h (stored h table b (pages h)).entry (holds_sized map h holds)
      (all_held h table b table_octets (holds_held map h holds map_octets) (pages h)) k inside
      ∙ passed_entry h table b (pages h) k inside

  -- ---- the map is the one made from the table, whatever the table holds

  module _ (map_octets : Octets map) where
    held : AllHeld h (entry_at h.n map)
    held = holds_held map h holds map_octets

    entry_is : (i : ℕ) → i < pages h → entry_after h table (backup_in h.n image map) i ≡ made_entry h.n h.page.count table i
    unfolding made_entry
    entry_is i inside = at (agrees h (entry_at h.n map) table i) refl
      where
        at : (t : Bool) → agrees h (entry_at h.n map) table i ≡ t
            → cond t (entry_at h.n map i) (made_entry h.n h.page.count table i) ≡ made_entry h.n h.page.count table i
        at true e =
            ap₂ {C = Entry} (λ t s. record { tag = t; signature = s }) (held i inside).tagged_04 (sym (agrees_is h (entry_at h.n map) table i e))
        at false e = refl

    pub store_makes_map : (storing table image map list).map ≡ made h.n h.page.count table
    unfolding made
    store_makes_map =
        let long : length table ≡ h.bucket.count = store_usable.one_fits in
        ap (λ (s : Stored). s.map) store_leaves
        ∙ same_file h _ _ (λ i inside. passed_entry h table (backup_in h.n image map) (pages h) i inside ∙ entry_is i inside)
        ∙ sym (ap {B = List ℕ} (λ (l : ℕ). file (record { n = h.n; page = record { count = h.page.count }; bucket = record { count = l } }) (made_entry h.n h.page.count table)) long)

    -- ---- and where few symbols differ, the image is the table

    module _ (table_octets : Octets table) (image-octets : Octets image) (signs : Signs h image (entry_at h.n map)) (few : FewDiffer h table image) where
      sized : Sized h
      sized = holds_sized map h holds

      lengths : length table ≡ length image
      lengths = store_usable.one_fits ∙ sym store_usable.other_fits

      -- a page agrees with its entry exactly when it is the image's
      kept_same : (k : ℕ) → k < pages h → agrees h (entry_at h.n map) table k ≡ true → page_at h.page.count table k ≡ page_at h.page.count image k
      kept_same k inside e =
          let one : List ℕ = page_at h.page.count table k in
          let other : List ℕ = page_at h.page.count image k in
          let long : length one ≡ min h.page.count (length table - k * h.page.count) = page_length h.page.count table k in
          let equal : length one ≡ length other =
          long ∙ ap (λ (l : ℕ). min h.page.count (l - k * h.page.count)) lengths ∙ sym (page_length h.page.count image k) in
          let most : h.page.count ≤ 65536 = page_most h.page.count sized.page_fits in
          let short : symbols 2 one ≤ wide.most = omega arith in
          own_tells wide wide_sound h.n (n_most h.n sized.n_fits) one other (page_octets _ table k table_octets) (page_octets _ image k image-octets) equal short
          (few k inside) (agrees_is h (entry_at h.n map) table k e ∙ signs k inside)

      same_kept : (k : ℕ) → k < pages h → page_at h.page.count table k ≡ page_at h.page.count image k → agrees h (entry_at h.n map) table k ≡ true
      same_kept k inside e = is_agrees h (entry_at h.n map) table k (ap (own wide h.n) e ∙ sym (signs k inside))

      image_page : (k : ℕ) → k < pages h → page_after h table (backup_in h.n image map) k ≡ page_at h.page.count table k
      image_page k inside = at (agrees h (entry_at h.n map) table k) refl
        where
          at : (t : Bool) → agrees h (entry_at h.n map) table k ≡ t
              → cond t (page_at h.page.count image k) (page_at h.page.count table k) ≡ page_at h.page.count table k
          at true e = sym (kept_same k inside e)
          at false e = refl

      image_table : (storing table image map list).image ≡ table
      image_table =
          let b : Backup = backup_in h.n image map in
          let long : length (stored h table b (pages h)).image ≡ h.bucket.count =
          all_length h table b (some_page h sized) store_usable.one_fits store_usable.other_fits (pages h) (le_refl (pages h)) in
          let after : length (storing table image map list).image ≡ h.bucket.count = ap (λ (s : Stored). length s.image) store_leaves ∙ long in
          pages_whole h.page.count (some_page h sized) _ table (after ∙ sym store_usable.one_fits)
          (λ k inside.
          let there : k < pages h = subst (λ (l : ℕ). k < pages_in h.page.count l) after inside in
          store_page k there ∙ image_page k there)

      precisely : (k : ℕ) → Memᴰ k (changed h table (entry_at h.n map) (pages h)) ↔ ((k < pages h) × (page_at h.page.count table k ≢ page_at h.page.count image k))
      precisely k =
          let named : _ = named_exactly (λ i. not (agrees h (entry_at h.n map) table i)) (pages h) k in (
            λ m.
                let b : (k < pages h) × (not (agrees h (entry_at h.n map) table k) ≡ true) = named.0 m in
                (b.0, λ e. not_both (agrees h (entry_at h.n map) table k) (same_kept k b.0 e) (not-true _ b.1)),
            λ b. named.1 (b.0, at (agrees h (entry_at h.n map) table k) refl b.0 b.1),
          )
        where
          at : (t : Bool) → agrees h (entry_at h.n map) table k ≡ t → k < pages h → page_at h.page.count table k ≢ page_at h.page.count image k → not t ≡ true
          at true e inside apart = absurd (apart (kept_same k inside e))
          at false e inside apart = refl

      mirrors : Mirrored h table image list count (storing table image map list)
      mirrors =
          record {
            image_is = image_table;
            map_is = store_makes_map;
            numbers = changed h table (entry_at h.n map) (pages h);
            list_is = ap (λ (s : Stored). s.list) store_leaves;
            exactly = precisely;
            upward = named_upward (λ i. not (agrees h (entry_at h.n map) table i)) (pages h);
            count_is = store_counts;
          }

pub store_mirrors : (h : Header) (table image map list : List ℕ) → Octets table → Octets image → Octets map → Signed h image map → FewDiffer h table image
    → (count : ℕ) → (storing table image map list).answer ≡ Ok count → Mirrored h table image list count (storing table image map list)
store_mirrors h table image map list table_octets image-octets map_octets signed few count answer =
    mirrors h table image map list signed.holds count answer map_octets table_octets image-octets signed.signs few
