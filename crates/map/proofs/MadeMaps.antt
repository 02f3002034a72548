-- The entries that a made map has: their n, their length, and where page k's stands; and the file that they and the header make.
-- Assumes nothing.
use mathlib.Core.Path.{◌≡◌, refl, sym, ap, ◌∙◌}
use mathlib.Core.Bool.{true, ◌&&◌}
use mathlib.Core.List.{List}
use Prim.Native.Nat.{ℕ, suc, ◌+◌, ◌*◌, ◌%◌, ◌≤◌, ◌<◌}
use native.Mathlib.Nat.{suc-mul, mul-le-mul, mul-le-mul_right}
use native.Mathlib.Omega.{arith}
use lib.Dec.{leb, eqb}
use lib.ListN.{length}
use borrow.Author.Tests.{leb-true}
use Rattle.units.specs.Counts.{pages_in}
use Rattle.units.specs.Sizes.{n_allowed, page_allowed, bucket_allowed}
use Rattle.units.specs.Writing.{written}
use Rattle.units.proofs.Writing.{written_append}
use Rattle.units.proofs.Runs.{run_length}
use Rattle.map.specs.Files.{header, entry, entries, file, entry_bytes, place}
use Rattle.map.specs.Making.{made_header, made_entry, made, needed}
use Rattle.map.specs.declared.Header.{Header}
use Rattle.map.proofs.Fields.{halves}
use Rattle.map.proofs.Tagging.{header_length, entry_length}

module _ (n page : ℕ) (bucket : List ℕ) where
  pub made_n : (k : ℕ) → (made_entry n page bucket k).signature.n ≡ n
  unfolding made_entry
  made_n k = refl

  pub made_length : (k : ℕ) → length (entry (made_entry n page bucket k)) ≡ entry_bytes n
  unfolding made_entry
  made_length k = entry_length (made_entry n page bucket k)

pub next_place : (n k : ℕ) → place n (suc k) ≡ place n k + entry_bytes n
next_place n k = omega (arith, suc-mul k (entry_bytes n))

-- an entry ends where the file does, or before
pub entry_inside : (n k pages : ℕ) → k < pages → place n k + entry_bytes n ≤ place n pages
entry_inside n k pages below =
    let more : suc k ≤ pages = omega arith in
    let up : suc k * entry_bytes n ≤ pages * entry_bytes n = mul-le-mul_right (entry_bytes n) more in
    omega (arith, suc-mul k (entry_bytes n))

-- what the size tests say

pub n_most : (n : ℕ) → n_allowed n ≡ true → n ≤ 4
n_most n e = leb-true _ _ (halves (leb 1 n) _ e).1

pub page_most : (page : ℕ) → page_allowed page ≡ true → page ≤ 65536
page_most page e = leb-true _ _ (halves (eqb (page % 2) 0 && leb 2 page) _ e).1

pub bucket_most : (bucket pages : ℕ) → bucket_allowed bucket pages ≡ true → bucket ≤ 16777216
bucket_most bucket pages e = leb-true _ _ (halves (leb bucket 16777216) _ e).0

pub pages_most : (bucket pages : ℕ) → bucket_allowed bucket pages ≡ true → pages ≤ 4096
pages_most bucket pages e = leb-true _ _ (halves (leb bucket 16777216) _ e).1

-- the longest file
pub place_most : (n bucket pages : ℕ) → n_allowed n ≡ true → bucket_allowed bucket pages ≡ true → place n pages ≤ 45074
place_most n bucket pages size long =
    let small : entry_bytes n ≤ 11 = omega (arith, n_most n size) in
    let product : pages * entry_bytes n ≤ 4096 * 11 = mul-le-mul (pages_most bucket pages long) small in
    omega arith

-- the header, and then the entries, are the file
pub file_written : (n page : ℕ) (bucket old : List ℕ) → needed n page bucket ≤ length old
    → written (written old 0 (header (made_header n page bucket))) 18 (entries (made_entry n page bucket) 0 (pages_in page (length bucket)))
    ≡ written old 0 (made n page bucket)
unfolding made file
file_written n page bucket old fits =
    let h : Header = made_header n page bucket in
    let es : List ℕ = entries (made_entry n page bucket) 0 (pages_in page (length bucket)) in
    let front : length (header h) ≡ 18 = header_length h in
    let rest : length es ≡ pages_in page (length bucket) * entry_bytes n =
    run_length (λ k. entry (made_entry n page bucket k)) (entry_bytes n) (made_length n page bucket) (pages_in page (length bucket)) 0 in
    ap (λ (k : ℕ). written (written old 0 (header h)) (0 + k) es) (sym front) ∙ written_append old 0 (header h) es (omega arith)
