-- One page of a store in the map's bytes: a kept page changes nothing, and a written one its bytes in the image and its entry in the map.
-- Assumes nothing.
use Rattle.std.specs.Prelude.{Ok}
use mathlib.Core.Path.{◌≡◌, sym, ap, ap₂, ◌∙◌}
use mathlib.Core.Bool.{Bool, true, false, cond}
use mathlib.Core.List.{List}
use Prim.Native.Nat.{ℕ, zero, suc, ◌+◌, ◌*◌, ◌<◌}
use native.Mathlib.Omega.{arith}
use lib.Dec.{leb}
use lib.ListN.{length, take}
use Rattle.units.specs.Runs.{end_to_end}
use Rattle.units.specs.Writing.{written}
use Rattle.signature.specs.Objects.{Octets, low_bytes}
use Rattle.signature.specs.Signatures.{handed}
use Rattle.signature.specs.declared.Signature.{Signature}
use Rattle.signature.proofs.Octets.{append_octets, take_octets, drop_octets, low_bytes_octets}
use Rattle.map.specs.Buckets.{page_at}
use Rattle.map.specs.Files.{pages, file, tagged, components, entry, entry_put, entry_bytes, place}
use Rattle.map.specs.Making.{made_entry}
use Rattle.map.specs.Reading.{reading, entry_at}
use Rattle.map.specs.declared.Header.{Header}
use Rattle.map.proofs.Contents.{file_read}
use Rattle.map.proofs.Holding.{holds_sized, holds_held}
use Rattle.map.proofs.Maps.{made_held}
use Rattle.map.proofs.Readback.{file_of_reading}
use Rattle.backup.specs.Backups.{Backup, backup_in, agrees, page_written}
use Rattle.backup.proofs.Entered.{replaced, entry_put_file}
use Rattle.backup.proofs.Storing.{page_kept, page_written_lem, page_held}
use Rattle.store.specs.Steps.{Stepped, page_answer, passed_to, passing}
use Rattle.store.specs.declared.Answer.{Answer}
use Rattle.store.specs.declared.Answer.TheVariants.{Kept, Written}

abbrev pub passed_of : Answer → ℕ → List ℕ → List ℕ → Stepped
passed_of answer k image map = record { answer = Ok answer; next = record { page = suc k }; image = image; map = map }

module _ (h : Header) (table image map : List ℕ) (k : ℕ) (octets : Octets map) (holds : reading map ≡ Ok h) where
  pub kept_passing : agrees h (entry_at h.n map) table k ≡ true → passing h table image map k ≡ passed_of (Kept k) k image map
  unfolding passing
  kept_passing e =
      ap₂ (λ (t : Bool) (b : Backup). passed_to h (page_answer k t) k b) e (page_kept h table (backup_in h.n image map) k e)
      ∙ ap (passed_of (Kept k) k image) (file_of_reading map octets h holds)

  module _ (table_octets : Octets table) (inside : k < pages h) where
    entry_put_map : entry_put (made_entry h.n h.page.count table k) map k ≡ file h (replaced (entry_at h.n map) k (made_entry h.n h.page.count table k))
    entry_put_map =
        ap (λ (l : List ℕ). entry_put (made_entry h.n h.page.count table k) l k) (sym (file_of_reading map octets h holds))
        ∙ entry_put_file h (entry_at h.n map) (holds_sized map h holds) (holds_held map h holds octets) k inside _ (made_held h.n h.page.count table table_octets k)

    pub written_passing : agrees h (entry_at h.n map) table k ≡ false
        → passing h table image map k
        ≡ passed_of (Written k) k (written image (k * h.page.count) (page_at h.page.count table k)) (entry_put (made_entry h.n h.page.count table k) map k)
    unfolding passing page_written
    written_passing e =
        ap₂ (λ (t : Bool) (b : Backup). passed_to h (page_answer k t) k b) e (page_written_lem h table (backup_in h.n image map) k e)
        ∙ ap (passed_of (Written k) k (written image (k * h.page.count) (page_at h.page.count table k))) (sym entry_put_map)

    -- the map that a written page leaves reads as before
    pub written_reads : agrees h (entry_at h.n map) table k ≡ false → reading (entry_put (made_entry h.n h.page.count table k) map k) ≡ Ok h
    unfolding passing
    written_reads e =
        ap (λ (s : Stepped). reading s.map) (sym (written_passing e))
        ∙ file_read h _ (holds_sized map h holds) (page_held h table table_octets (backup_in h.n image map) k (holds_held map h holds octets))

-- ---- the map stays a list of octets

runs_octets : (f : ℕ → List ℕ) → ((i : ℕ) → Octets (f i)) → (at m : ℕ) → Octets (end_to_end f at m)
unfolding end_to_end
runs_octets f each at zero = λ i. omega arith
runs_octets f each at (suc m) = append_octets (f at) _ (each at) (runs_octets f each (suc at) m)

entry_octets : (s : Signature) → Octets (entry (record { tag = 4; signature = s }))
unfolding entry tagged components
entry_octets s zero = omega arith
entry_octets s (suc i) =
    let parts : List ℕ = end_to_end (λ j. low_bytes 2 (handed s j)) 1 s.n in
    append_octets (low_bytes 2 (length parts)) parts (low_bytes_octets 2 _) (runs_octets _ (λ j. low_bytes_octets 2 (handed s j)) 1 s.n) i

pub put_octets : (s : Signature) (map : List ℕ) (k : ℕ) → Octets map → Octets (entry_put (record { tag = 4; signature = s }) map k)
unfolding entry_put written
put_octets s map k octets = at (leb (place s.n k + entry_bytes s.n) (length map))
  where
    new : List ℕ
    new = entry (record { tag = 4; signature = s })

    at : (room : Bool) → Octets (cond room (written map (place s.n k) new) map)
    at true =
        append_octets (take (place s.n k) map) _ (take_octets (place s.n k) map octets)
        (append_octets new _ (entry_octets s) (drop_octets (place s.n k + length new) map octets))
    at false = octets
