-- A backup, said over pages and entries: when a page agrees with its entry, and what a store makes of one page and of all.
use Rattle.std.specs.Prelude.{Bool, not, cond, ◌&&◌, List, ℕ, zero, suc, ◌*◌, eqb}
use Rattle.units.specs.Naming.{named}
use Rattle.units.specs.Writing.{written}
use Rattle.signature.specs.Kinds.{wide}
use Rattle.signature.specs.Operations.{own}
use Rattle.signature.specs.declared.Signature.{Signature}
use Rattle.map.specs.Buckets.{page_at}
use Rattle.map.specs.Making.{made_entry}
use Rattle.map.specs.Reading.{entry_at}
use Rattle.map.specs.declared.Entry.{Entry}
use Rattle.map.specs.declared.Header.{Header}

-- the image of a bucket, and an entry for each page
pub record Backup : Type 0 where
  pub image : List ℕ
  pub entry : ℕ → Entry

-- what an image and a map's file hold, n components an entry
abbrev pub backup_in : ℕ → List ℕ → List ℕ → Backup
backup_in n image map = record { image = image; entry = entry_at n map }

-- n and every component
unfoldable pub same : Signature → Signature → Bool
same a b = eqb a.n b.n && eqb a.s1 b.s1 && eqb a.s2 b.s2 && eqb a.s3 b.s3 && eqb a.s4 b.s4

-- page k of a bucket has its entry's signature
unfoldable pub agrees : Header → (ℕ → Entry) → List ℕ → ℕ → Bool
agrees h entry bucket k = same (own wide h.n (page_at h.page.count bucket k)) (entry k).signature

-- the table's page k goes into the image, and its signature into the entry
unfoldable pub page_written : Header → List ℕ → Backup → ℕ → Backup
page_written h table b k =
    record {
      image = written b.image (k * h.page.count) (page_at h.page.count table k);
      entry = λ i. cond (eqb i k) (made_entry h.n h.page.count table k) (b.entry i);
    }

-- a page that agrees with its entry is kept
unfoldable pub page_stored : Header → List ℕ → Backup → ℕ → Backup
page_stored h table b k = cond (agrees h b.entry table k) b (page_written h table b k)

-- the first m pages, upward
unfoldable pub stored : Header → List ℕ → Backup → ℕ → Backup
stored h table b zero = b
stored h table b (suc m) = page_stored h table (stored h table b m) m

-- the numbers of those that are written
abbrev pub changed : Header → List ℕ → (ℕ → Entry) → ℕ → List ℕ
changed h table entry m = named (λ k. not (agrees h entry table k)) m
