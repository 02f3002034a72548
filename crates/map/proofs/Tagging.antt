-- Tagged fields as bytes: how long they are, and that tag with length, and then the value, written one after the other, are the field.
-- Assumes nothing.
use mathlib.Core.Path.{◌≡◌, sym, ap, ap₂, ◌∙◌}
use mathlib.Core.List.{List, ◌∷◌, ◌++◌}
use Prim.Native.Nat.{ℕ, suc, ◌+◌, ◌*◌, ◌≤◌, ◌<◌}
use native.Mathlib.Omega.{arith}
use lib.ListN.{length, take, drop, length-append}
use lib.Seq.{drop-drop}
use borrow.Rule.Slice.PartMut.{put_mid}
use borrow.Author.Tests.{le-leb, lt-leb}
use Rattle.units.specs.Writing.{written}
use Rattle.units.proofs.Writing.{written_append}
use Rattle.units.proofs.Runs.{run_length}
use Rattle.signature.specs.Signatures.{handed}
use Rattle.signature.specs.Objects.{low_bytes}
use Rattle.signature.proofs.Numbers.{low_bytes_length}
use Rattle.map.specs.Files.{tagged, header, components, entry, entry_put, entry_bytes, place}
use Rattle.map.specs.declared.Header.{Header}
use Rattle.map.specs.declared.Entry.{Entry}

-- what the part of a slice holds by now, put back where the part begins
pub part_written : (old part new : List ℕ) (at size : ℕ) → part ≡ new → size ≡ length new → put_mid at size old part ≡ written old at new
unfolding written
part_written old part new at size same long =
    ap₂ (λ (p q : List ℕ). take at old ++ (p ++ q)) same (drop-drop size at old ∙ ap (λ (k : ℕ). drop (at + k) old) long)

pub tagged_length : (tag : ℕ) (value : List ℕ) → length (tagged tag value) ≡ 3 + length value
unfolding tagged
tagged_length tag value = omega (arith, length-append (low_bytes 2 (length value)) value, low_bytes_length 2 (length value))

pub tagged_written : (old : List ℕ) (at tag size : ℕ) (value : List ℕ) → length value ≡ size → at + 3 + size ≤ length old
    → written (written old at (tag ∷ low_bytes 2 size)) (at + 3) value ≡ written old at (tagged tag value)
unfolding tagged
tagged_written old at tag size value sized fits =
    let three : length (tag ∷ low_bytes 2 size) ≡ 3 = ap suc (low_bytes_length 2 size) in
    let room : at + (length (tag ∷ low_bytes 2 size) + length value) ≤ length old = omega arith in
    ap (λ (k : ℕ). written (written old at (tag ∷ low_bytes 2 size)) (at + k) value) (sym three)
    ∙ written_append old at (tag ∷ low_bytes 2 size) value room
    ∙ ap (λ (k : ℕ). written old at (tag ∷ (low_bytes 2 k ++ value))) (sym sized)

pub header_length : (h : Header) → length (header h) ≡ 18
unfolding header
header_length h =
    let n : List ℕ = low_bytes 1 h.n in
    let page : List ℕ = low_bytes 4 h.page.count in
    let bucket : List ℕ = low_bytes 4 h.bucket.count in
    omega (
      arith,
      length-append (tagged 1 n) (tagged 2 page ++ tagged 3 bucket),
      length-append (tagged 2 page) (tagged 3 bucket),
      tagged_length 1 n,
      tagged_length 2 page,
      tagged_length 3 bucket,
      low_bytes_length 1 h.n,
      low_bytes_length 4 h.page.count,
      low_bytes_length 4 h.bucket.count,
    )

pub components_length : (n : ℕ) (s : ℕ → ℕ) → length (components n s) ≡ 2 * n
unfolding components
components_length n s = omega (arith, run_length (λ j. low_bytes 2 (s j)) 2 (λ j. low_bytes_length 2 (s j)) n 1)

pub entry_length : (e : Entry) → length (entry e) ≡ entry_bytes e.signature.n
unfolding entry
entry_length e =
    let value : List ℕ = components e.signature.n (handed e.signature) in
    omega (arith, tagged_length e.tag value, components_length e.signature.n (handed e.signature))

-- an entry written over, where the map has room for it and where it has none
module _ (e : Entry) (map : List ℕ) (k : ℕ) where
  pub entry_put_lem : place e.signature.n k + entry_bytes e.signature.n ≤ length map → entry_put e map k ≡ written map (place e.signature.n k) (entry e)
  unfolding entry_put
  entry_put_lem fits = simp (le-leb _ _ fits)

  pub entry_not_put : length map < place e.signature.n k + entry_bytes e.signature.n → entry_put e map k ≡ map
  unfolding entry_put
  entry_not_put short = simp (lt-leb _ _ short)
