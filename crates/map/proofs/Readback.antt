-- A file that reads is the file made from what was read: one file for one meaning.
-- Assumes nothing.
use Rattle.std.specs.Prelude.{Ok}
use mathlib.Core.Path.{◌≡◌, sym, ap, ap₂, ◌∙◌}
use mathlib.Core.Bool.{true}
use mathlib.Core.List.{List, ◌++◌}
use Prim.Native.Nat.{ℕ, ◌+◌, ◌*◌, ◌≤◌, ◌<◌}
use native.Mathlib.Nat.{zero-add}
use native.Mathlib.Omega.{arith}
use lib.ListN.{length, take, drop, take-append-drop, length-drop}
use lib.Seq.{take-add, take_all, drop-drop}
use borrow.Author.Tests.{le-leb}
use Rattle.units.specs.Refusals.{first}
use Rattle.units.proofs.Refusing.{Quiet, allowed_when}
use Rattle.units.proofs.Runs.{run_same, run_back}
use Rattle.signature.specs.Objects.{Octets, low_first, low_bytes}
use Rattle.signature.specs.Signatures.{handed, answered}
use Rattle.signature.proofs.Handing.{handed_answered}
use Rattle.signature.proofs.Numbers.{read_written}
use Rattle.map.specs.Files.{pages, tagged, header, components, entry, file, entry_bytes, place}
use Rattle.reader.specs.Fields.{field_at, is_due}
use Rattle.map.specs.Reading.{header_of, map_tests, reading, entry_at}
use Rattle.map.specs.declared.Header.{Header}
use Rattle.reader.proofs.Due.{Due}
use Rattle.map.proofs.Fields.{n_due, page_due, bucket_due}
use Rattle.map.proofs.Entries.{entry_due, quiet_due, quiet_end}
use Rattle.map.proofs.Headers.{Kept, told_holds, n_small}
use Rattle.map.proofs.Holding.{quiet_kept}
use Rattle.map.proofs.Back.{tagged_back}
use Rattle.units.specs.Refusals.{allowed}

module _ (bytes : List ℕ) (octets : Octets bytes) where
  -- components, as they stand in the file
  components_back : (n at : ℕ) → n ≤ 4 → at + 3 + 2 * n ≤ length bytes
      → components n (handed (answered n (λ j. low_first 2 bytes (at + 1 + 2 * j)))) ≡ take (2 * n) (drop (at + 3) bytes)
  unfolding components
  components_back n at small inside =
      let s : ℕ → ℕ = λ j. low_first 2 bytes (at + 1 + 2 * j) in
      let plain : (j : ℕ) → 1 ≤ j → j < 1 + n → low_bytes 2 (handed (answered n s) j) ≡ low_bytes 2 (s j) =
      λ j some within.
      let up : j ≤ n = omega arith in
      ap (low_bytes 2) (handed_answered n s j some (omega arith) ∙ simp (le-leb j n up)) in
      let read : (i : ℕ) → i < n → low_bytes 2 (s (1 + i)) ≡ take 2 (drop (at + 3 + i * 2) bytes) =
      λ i within.
      let there : at + 1 + 2 * (1 + i) ≡ at + 3 + i * 2 = omega arith in
      read_written 2 bytes (at + 1 + 2 * (1 + i)) octets (omega arith) ∙ ap (λ (k : ℕ). take 2 (drop k bytes)) there in
      let twice : n * 2 ≡ 2 * n = omega arith in
      run_same (λ j. low_bytes 2 (handed (answered n s) j)) (λ j. low_bytes 2 (s j)) n 1 plain
      ∙ run_back (λ j. low_bytes 2 (s j)) 2 bytes n 1 (at + 3) read
      ∙ ap (λ (k : ℕ). take k (drop (at + 3) bytes)) twice

  entry_back : (n k : ℕ) → n ≤ 4 → is_due 4 (field_at n bytes (place n k)) ≡ true → entry (entry_at n bytes k) ≡ take (entry_bytes n) (drop (place n k) bytes)
  unfolding entry entry_at
  entry_back n k small e =
      let d : Due 4 (2 * n) bytes (place n k) = entry_due n bytes small (place n k) e in
      ap (λ (t : ℕ). tagged t (components n (handed (answered n (λ j. low_first 2 bytes (place n k + 1 + 2 * j)))))) d.is
      ∙ tagged_back 4 (2 * n) bytes (place n k) octets d _ (components_back n (place n k) small d.inside)

  header_back : Kept bytes → header (header_of bytes) ≡ take 18 bytes
  unfolding header header_of
  header_back k =
      let dn : Due 1 1 bytes 0 = n_due bytes k.n in
      let dp : Due 2 4 bytes 4 = page_due bytes k.page in
      let db : Due 3 4 bytes 11 = bucket_due bytes k.bucket in
      let n : tagged 1 (low_bytes 1 (low_first 1 bytes 3)) ≡ take 4 bytes = tagged_back 1 1 bytes 0 octets dn _ (read_written 1 bytes 3 octets (omega arith)) in
      let page : tagged 2 (low_bytes 4 (low_first 4 bytes 7)) ≡ take 7 (drop 4 bytes) =
      tagged_back 2 4 bytes 4 octets dp _ (read_written 4 bytes 7 octets (omega arith)) in
      let bucket : tagged 3 (low_bytes 4 (low_first 4 bytes 14)) ≡ take 7 (drop 11 bytes) =
      tagged_back 3 4 bytes 11 octets db _ (read_written 4 bytes 14 octets (omega arith)) in
      ap₂ ◌++◌ n (ap₂ ◌++◌ page (bucket ∙ ap (take 7) (sym (drop-drop 7 4 bytes))) ∙ sym (take-add 7 7 (drop 4 bytes))) ∙ sym (take-add 4 14 bytes)

  module _ (q : Quiet (map_tests bytes)) where
    kept : Kept bytes
    kept = quiet_kept bytes q

    whole : file (header_of bytes) (entry_at (header_of bytes).n bytes) ≡ bytes
    unfolding file
    whole =
        let h : Header = header_of bytes in
        let n : ℕ = h.n in
        let small : n ≤ 4 = n_small bytes kept in
        let read : (i : ℕ) → i < pages h → entry (entry_at n bytes (0 + i)) ≡ take (entry_bytes n) (drop (18 + i * entry_bytes n) bytes) =
        λ i inside. ap (λ (k : ℕ). entry (entry_at n bytes k)) (zero-add i) ∙ entry_back n i small (quiet_due n bytes (pages h) 18 q.1.1.1 i inside) in
        let rest : length (drop 18 bytes) ≤ pages h * entry_bytes n = omega (arith, length-drop 18 bytes, quiet_end n bytes (pages h) 18 q.1.1.1) in
        ap₂ ◌++◌ (header_back kept)
        (run_back (λ k. entry (entry_at n bytes k)) (entry_bytes n) bytes (pages h) 0 18 read ∙ take_all (pages h * entry_bytes n) (drop 18 bytes) rest)
        ∙ take-append-drop 18 bytes

  pub file_of_reading : (h : Header) → reading bytes ≡ Ok h → file h (entry_at h.n bytes) ≡ bytes
  unfolding reading
  file_of_reading h holds =
      let both : (first (map_tests bytes) ≡ allowed) × (header_of bytes ≡ h) = told_holds _ _ _ holds in
      ap (λ (g : Header). file g (entry_at g.n bytes)) (sym both.1) ∙ whole ((allowed_when (map_tests bytes)).0 both.0)
