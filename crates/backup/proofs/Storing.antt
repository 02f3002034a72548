-- What a store makes of each page and each entry, told by those that stood there before: pages do not meddle with each other.
-- Assumes nothing.
use mathlib.Core.Path.{◌≡◌, refl, sym, ap, ap₂, ◌∙◌, subst}
use mathlib.Core.Logic.{dite}
use mathlib.Core.Bool.{Bool, true, false, cond}
use mathlib.Core.List.{List}
use Prim.Native.Nat.{ℕ, zero, suc, ◌-◌, ◌*◌, ◌≤◌, ◌<◌, min}
use native.Mathlib.Nat.{not-suc-le-zero, le_refl}
use native.Mathlib.Decide.{ℕ_discrete}
use native.Mathlib.Omega.{arith}
use lib.ListN.{length}
use borrow.Author.Tests.{eq-eqb, ne_eqb}
use Rattle.units.proofs.Pieces.{piece_begins}
use Rattle.units.proofs.Writing.{written_length}
use Rattle.signature.specs.Kinds.{wide}
use Rattle.signature.specs.Objects.{Octets}
use Rattle.signature.specs.Operations.{own}
use Rattle.map.specs.Buckets.{page_at}
use Rattle.map.specs.Files.{pages}
use Rattle.map.specs.Making.{made_entry}
use Rattle.map.specs.declared.Entry.{Entry}
use Rattle.map.specs.declared.Header.{Header}
use Rattle.map.proofs.Contents.{Held}
use Rattle.map.proofs.Maps.{made_held}
use Rattle.backup.specs.Backups.{Backup, same, agrees, page_written, page_stored, stored}
use Rattle.backup.proofs.Entered.{AllHeld}
use Rattle.backup.proofs.Pages.{page_length, page_here, page_else}

-- ---- one page

module _ (h : Header) (table : List ℕ) (b : Backup) (k : ℕ) where
  pub page_kept : agrees h b.entry table k ≡ true → page_stored h table b k ≡ b
  unfolding page_stored
  page_kept e = simp e

  pub page_written_lem : agrees h b.entry table k ≡ false → page_stored h table b k ≡ page_written h table b k
  unfolding page_stored
  page_written_lem e = simp e

  -- what holds of the backup, kept or written, holds of it stored
  pub by_page : (P : Backup → Type 0) → (agrees h b.entry table k ≡ true → P b) → (agrees h b.entry table k ≡ false → P (page_written h table b k))
      → P (page_stored h table b k)
  by_page P kept new = at (agrees h b.entry table k) refl
    where
      at : (t : Bool) → agrees h b.entry table k ≡ t → P (page_stored h table b k)
      at true e = subst P (sym (page_kept e)) (kept e)
      at false e = subst P (sym (page_written_lem e)) (new e)

  written_entry : (page_written h table b k).entry k ≡ made_entry h.n h.page.count table k
  unfolding page_written
  written_entry = simp (eq-eqb k k refl)

  written_entry_else : (i : ℕ) → (i ≡ k → ⊥) → (page_written h table b k).entry i ≡ b.entry i
  unfolding page_written
  written_entry_else i other = simp (ne_eqb i k other)

  pub stored_entry : (page_stored h table b k).entry k ≡ cond (agrees h b.entry table k) (b.entry k) (made_entry h.n h.page.count table k)
  stored_entry =
      by_page (λ (a : Backup). a.entry k ≡ cond (agrees h b.entry table k) (b.entry k) (made_entry h.n h.page.count table k))
      (λ e. simp e) (λ e. written_entry ∙ sym (simp e))

  pub stored_entry_else : (i : ℕ) → (i ≡ k → ⊥) → (page_stored h table b k).entry i ≡ b.entry i
  stored_entry_else i other = by_page (λ (a : Backup). a.entry i ≡ b.entry i) (λ e. refl) (λ e. written_entry_else i other)

module _ (h : Header) (some : 0 < h.page.count) (table : List ℕ) (b : Backup) (k : ℕ) (table_length : length table ≡ h.bucket.count)
    (image_length : length b.image ≡ h.bucket.count) (inside : k < pages h) where
  starts : k * h.page.count ≤ length b.image
  starts = omega (arith, piece_begins h.page.count h.bucket.count some k inside)

  long : length (page_at h.page.count table k) ≡ min h.page.count (length b.image - k * h.page.count)
  long = page_length h.page.count table k ∙ ap (λ (n : ℕ). min h.page.count (n - k * h.page.count)) (table_length ∙ sym image_length)

  pub stored_length : length (page_stored h table b k).image ≡ h.bucket.count
  unfolding page_written
  stored_length =
      by_page h table b k (λ (a : Backup). length a.image ≡ h.bucket.count) (λ e. image_length)
      (λ e. written_length b.image (k * h.page.count) (page_at h.page.count table k) (omega (arith, starts, long)) ∙ image_length)

  pub stored_page : page_at h.page.count (page_stored h table b k).image k
      ≡ cond (agrees h b.entry table k) (page_at h.page.count b.image k) (page_at h.page.count table k)
  unfolding page_written
  stored_page =
      by_page h table b k
      (λ (a : Backup). page_at h.page.count a.image k ≡ cond (agrees h b.entry table k) (page_at h.page.count b.image k) (page_at h.page.count table k))
      (λ e. sym (simp e))
      (λ e. page_here h.page.count b.image (page_at h.page.count table k) k starts long ∙ sym (simp e))

  pub stored_page_else : (i : ℕ) → (i ≡ k → ⊥) → page_at h.page.count (page_stored h table b k).image i ≡ page_at h.page.count b.image i
  unfolding page_written
  stored_page_else i other =
      by_page h table b k (λ (a : Backup). page_at h.page.count a.image i ≡ page_at h.page.count b.image i) (λ e. refl)
      (λ e. page_else h.page.count b.image (page_at h.page.count table k) k starts long i other)

pub page_held : (h : Header) (table : List ℕ) → Octets table → (b : Backup) (k : ℕ) → AllHeld h b.entry → AllHeld h (page_stored h table b k).entry
page_held h table octets b k held i inside =
    by_page h table b k (λ (a : Backup). Held h.n (a.entry i)) (λ e. held i inside)
    (λ e.
    dite (ℕ_discrete i k)
    (λ (is : i ≡ k).
    subst (Held h.n) (sym (ap (page_written h table b k).entry is ∙ written_entry h table b k)) (made_held h.n h.page.count table octets k))
    (λ (other : i ≡ k → ⊥). subst (Held h.n) (sym (written_entry_else h table b k i other)) (held i inside)))

-- ---- the pages from the first on

module _ (h : Header) (table : List ℕ) (b : Backup) where
  -- what a store leaves as page i and as its entry
  abbrev pub page_after : ℕ → List ℕ
  page_after i = cond (agrees h b.entry table i) (page_at h.page.count b.image i) (page_at h.page.count table i)

  abbrev pub entry_after : ℕ → Entry
  entry_after i = cond (agrees h b.entry table i) (b.entry i) (made_entry h.n h.page.count table i)

  pub none_stored : stored h table b 0 ≡ b
  unfolding stored
  none_stored = refl

  pub next_stored : (m : ℕ) → stored h table b (suc m) ≡ page_stored h table (stored h table b m) m
  unfolding stored
  next_stored m = refl

  pub ahead_entry : (m i : ℕ) → m ≤ i → (stored h table b m).entry i ≡ b.entry i
  ahead_entry zero i up = ap (λ (a : Backup). a.entry i) none_stored
  ahead_entry (suc m) i up =
      ap (λ (a : Backup). a.entry i) (next_stored m) ∙ stored_entry_else h table (stored h table b m) m i (omega arith) ∙ ahead_entry m i (omega arith)

  -- and so a page's test is the one that it had before the store
  pub ahead_agrees : (m : ℕ) → agrees h (stored h table b m).entry table m ≡ agrees h b.entry table m
  unfolding agrees
  ahead_agrees m = ap (λ (e : Entry). same (own wide h.n (page_at h.page.count table m)) e.signature) (ahead_entry m m (le_refl m))

  pub passed_entry : (m i : ℕ) → i < m → (stored h table b m).entry i ≡ entry_after i
  passed_entry zero i below = absurd (not-suc-le-zero below)
  passed_entry (suc m) i below = dite (ℕ_discrete i m) here (λ (other : i ≡ m → ⊥). earlier other (passed_entry m i (omega arith)))
    where
      here : i ≡ m → (stored h table b (suc m)).entry i ≡ entry_after i
      here is =
          ap₂ (λ (a : Backup) (j : ℕ). a.entry j) (next_stored m) is
          ∙ stored_entry h table (stored h table b m) m
          ∙ ap₂ (λ (t : Bool) (e : Entry). cond t e (made_entry h.n h.page.count table m)) (ahead_agrees m) (ahead_entry m m (le_refl m))
          ∙ ap entry_after (sym is)

      earlier : (i ≡ m → ⊥) → (stored h table b m).entry i ≡ entry_after i → (stored h table b (suc m)).entry i ≡ entry_after i
      earlier other before = ap (λ (a : Backup). a.entry i) (next_stored m) ∙ stored_entry_else h table (stored h table b m) m i other ∙ before

  module _ (some : 0 < h.page.count) (table_length : length table ≡ h.bucket.count) (image_length : length b.image ≡ h.bucket.count) where
    pub all_length : (m : ℕ) → m ≤ pages h → length (stored h table b m).image ≡ h.bucket.count
    all_length zero most = ap (λ (a : Backup). length a.image) none_stored ∙ image_length
    all_length (suc m) most =
        ap (λ (a : Backup). length a.image) (next_stored m) ∙ stored_length h some table (stored h table b m) m table_length (all_length m (omega arith)) (omega arith)

    -- page i, before it is stored and after
    ahead_page : (m : ℕ) → m ≤ pages h → (i : ℕ) → m ≤ i → page_at h.page.count (stored h table b m).image i ≡ page_at h.page.count b.image i
    ahead_page zero most i up = ap (λ (a : Backup). page_at h.page.count a.image i) none_stored
    ahead_page (suc m) most i up =
        ap (λ (a : Backup). page_at h.page.count a.image i) (next_stored m)
        ∙ stored_page_else h some table (stored h table b m) m table_length (all_length m (omega arith)) (omega arith) i (omega arith)
        ∙ ahead_page m (omega arith) i (omega arith)

    pub passed_page : (m : ℕ) → m ≤ pages h → (i : ℕ) → i < m → page_at h.page.count (stored h table b m).image i ≡ page_after i
    passed_page zero most i below = absurd (not-suc-le-zero below)
    passed_page (suc m) most i below = dite (ℕ_discrete i m) here (λ (other : i ≡ m → ⊥). earlier other (passed_page m (omega arith) i (omega arith)))
      where
        here : i ≡ m → page_at h.page.count (stored h table b (suc m)).image i ≡ page_after i
        here is =
            ap₂ (λ (a : Backup) (j : ℕ). page_at h.page.count a.image j) (next_stored m) is
            ∙ stored_page h some table (stored h table b m) m table_length (all_length m (omega arith)) (omega arith)
            ∙ ap₂ (λ (t : Bool) (l : List ℕ). cond t l (page_at h.page.count table m)) (ahead_agrees m) (ahead_page m (omega arith) m (le_refl m))
            ∙ ap page_after (sym is)

        earlier : (i ≡ m → ⊥) → page_at h.page.count (stored h table b m).image i ≡ page_after i
            → page_at h.page.count (stored h table b (suc m)).image i ≡ page_after i
        earlier other before =
            ap (λ (a : Backup). page_at h.page.count a.image i) (next_stored m)
            ∙ stored_page_else h some table (stored h table b m) m table_length (all_length m (omega arith)) (omega arith) i other
            ∙ before

  pub all_held : Octets table → AllHeld h b.entry → (m : ℕ) → AllHeld h (stored h table b m).entry
  all_held octets held zero = subst (λ (a : Backup). AllHeld h a.entry) (sym none_stored) held
  all_held octets held (suc m) =
      subst (λ (a : Backup). AllHeld h a.entry) (sym (next_stored m)) (page_held h table octets (stored h table b m) m (all_held octets held m))
