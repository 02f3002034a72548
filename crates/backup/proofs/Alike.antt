-- Backups with one image, and the same entries for the bucket's pages: a page stored leaves them so, and their files are the same.
-- Assumes nothing.
use mathlib.Core.Path.{◌≡◌, sym, ap, ap₂, ◌∙◌}
use mathlib.Core.Logic.{dite}
use mathlib.Core.Bool.{Bool, cond}
use mathlib.Core.List.{List, ◌++◌}
use Prim.Native.Nat.{ℕ, ◌*◌, ◌<◌}
use native.Mathlib.Decide.{ℕ_discrete}
use native.Mathlib.Omega.{arith}
use Rattle.units.specs.Writing.{written}
use Rattle.units.proofs.Runs.{run_same}
use Rattle.signature.specs.Kinds.{wide}
use Rattle.signature.specs.Operations.{own}
use Rattle.map.specs.Buckets.{page_at}
use Rattle.map.specs.Files.{pages, entry, file, header}
use Rattle.map.specs.Making.{made_entry}
use Rattle.map.specs.declared.Entry.{Entry}
use Rattle.map.specs.declared.Header.{Header}
use Rattle.backup.specs.Backups.{Backup, same, agrees, page_written, page_stored}
use Rattle.backup.proofs.Storing.{by_page, stored_entry, stored_entry_else}

-- the same entries for the bucket's pages
abbrev pub SameEntries : Header → (ℕ → Entry) → (ℕ → Entry) → Type 0
SameEntries h one other = (i : ℕ) → i < pages h → one i ≡ other i

pub same_file : (h : Header) (one other : ℕ → Entry) → SameEntries h one other → file h one ≡ file h other
unfolding file
same_file h one other e = ap (λ (l : List ℕ). header h ++ l) (run_same _ _ (pages h) 0 (λ i low high. ap entry (e i (omega arith))))

pub same_agrees : (h : Header) (one other : ℕ → Entry) (table : List ℕ) (k : ℕ) → one k ≡ other k → agrees h one table k ≡ agrees h other table k
unfolding agrees
same_agrees h one other table k e = ap (λ (x : Entry). same (own wide h.n (page_at h.page.count table k)) x.signature) e

stored_image : (h : Header) (table : List ℕ) (b : Backup) (k : ℕ)
    → (page_stored h table b k).image ≡ cond (agrees h b.entry table k) b.image (written b.image (k * h.page.count) (page_at h.page.count table k))
unfolding page_written
stored_image h table b k =
    by_page h table b k
    (λ (a : Backup). a.image ≡ cond (agrees h b.entry table k) b.image (written b.image (k * h.page.count) (page_at h.page.count table k)))
    (λ e. sym (simp e)) (λ e. sym (simp e))

module _ (h : Header) (table : List ℕ) (one other : Backup) (image : one.image ≡ other.image) (entries : SameEntries h one.entry other.entry)
    (k : ℕ) (inside : k < pages h) where
  test : agrees h one.entry table k ≡ agrees h other.entry table k
  test = same_agrees h one.entry other.entry table k (entries k inside)

  pub alike_image : (page_stored h table one k).image ≡ (page_stored h table other k).image
  alike_image =
      stored_image h table one k
      ∙ ap₂ (λ (t : Bool) (l : List ℕ). cond t l (written l (k * h.page.count) (page_at h.page.count table k))) test image
      ∙ sym (stored_image h table other k)

  pub alike_entries : SameEntries h (page_stored h table one k).entry (page_stored h table other k).entry
  alike_entries i below =
      dite (ℕ_discrete i k)
      (λ (is : i ≡ k).
      ap (page_stored h table one k).entry is
      ∙ stored_entry h table one k
      ∙ ap₂ (λ (t : Bool) (e : Entry). cond t e (made_entry h.n h.page.count table k)) test (entries k inside)
      ∙ sym (stored_entry h table other k)
      ∙ ap (page_stored h table other k).entry (sym is))
      (λ (apart : i ≡ k → ⊥). stored_entry_else h table one k i apart ∙ entries i below ∙ sym (stored_entry_else h table other k i apart))
