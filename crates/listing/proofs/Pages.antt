-- The lines of a map's pages: page k's line from its entry, and how long they are together.
-- Assumes nothing.
use mathlib.Core.Path.{◌≡◌, sym, ap, ◌∙◌}
use mathlib.Core.List.{List}
use Prim.Native.Nat.{ℕ, zero, suc, ◌+◌, ◌*◌, ◌≤◌}
use native.Mathlib.Nat.{zero-add}
use native.Mathlib.Numerals.{add-one}
use native.Mathlib.Omega.{arith}
use lib.ListN.{length, length-append}
use Rattle.units.specs.Runs.{end_to_end}
use Rattle.units.proofs.Runs.{run_more, run_none, run_as_long}
use Rattle.listing.proofs.Writers.{run_last}
use Rattle.signature.specs.Signatures.{handed}
use Rattle.map.specs.Reading.{entry_at}
use Rattle.map.specs.Files.{pages}
use Rattle.map.specs.declared.Header.{Header}
use Rattle.map.specs.declared.Entry.{Entry}
use Rattle.listing.specs.Digits.{width}
use Rattle.listing.specs.Lines.{header_line, page_line, line_of}
use Rattle.listing.proofs.Digits.{width_most}
use Rattle.listing.proofs.Lengths.{header_line_length, page_line_length}

pub entry_line : (n : ℕ) (bytes : List ℕ) (k : ℕ) (e : Entry) → e ≡ entry_at n bytes k → page_line e.signature.n k (handed e.signature) ≡ line_of n bytes k
unfolding entry_at
entry_line n bytes k e is = ap (λ (x : Entry). page_line x.signature.n k (handed x.signature)) is

-- its length, by n alone
pub entry_line_length : (n : ℕ) (bytes : List ℕ) (k i : ℕ) (e : Entry) → e ≡ entry_at n bytes i → length (page_line e.signature.n k (handed e.signature)) ≡ width k + 5 * n + 1
unfolding entry_at
entry_line_length n bytes k i e is =
    page_line_length e.signature.n k (handed e.signature) ∙ ap (λ (x : Entry). width k + 5 * x.signature.n + 1) is

pub lines_bytes : (n : ℕ) (bytes : List ℕ) (m : ℕ) → length (end_to_end (λ k. page_line n k (λ j. 0)) 0 m) ≡ length (end_to_end (line_of n bytes) 0 m)
lines_bytes n bytes m =
    run_as_long (λ k. page_line n k (λ j. 0)) (line_of n bytes) (λ k. page_line_length n k (λ j. 0) ∙ sym (page_line_length n k (handed (entry_at n bytes k).signature))) m 0

pub lines_most : (n : ℕ) → n ≤ 4 → (m k : ℕ) → length (end_to_end (λ i. page_line n i (λ j. 0)) k m) ≤ 41 * m
lines_most n small zero k = omega (arith, ap length (run_none (λ i. page_line n i (λ j. 0)) k))
lines_most n small (suc m) k =
    omega (arith, run_more (λ i. page_line n i (λ j. 0)) m k, page_line_length n k (λ j. 0), width_most 19 k, lines_most n small m (suc k))

pub header_most : (h : Header) → length (header_line h) ≤ 104
header_most h =
    omega (arith, header_line_length h, width_most 19 h.n, width_most 19 h.page.count, width_most 19 h.bucket.count, width_most 19 (pages h))

-- one line more
pub lines_next : (n k : ℕ) → length (end_to_end (λ i. page_line n i (λ j. 0)) 0 (k + 1)) ≡ length (end_to_end (λ i. page_line n i (λ j. 0)) 0 k) + (width k + 5 * n + 1)
lines_next n k =
    let f : ℕ → List ℕ = λ i. page_line n i (λ j. 0) in
    omega (
      arith,
      ap (λ (i : ℕ). length (end_to_end f 0 i)) (add-one k),
      ap length (run_last f 0 k),
      length-append (end_to_end f 0 k) (f (0 + k)),
      page_line_length n (0 + k) (λ j. 0),
      ap width (zero-add k),
    )
