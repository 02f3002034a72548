-- How long the lines are.
-- Assumes nothing.
use mathlib.Core.Path.{◌≡◌, ap}
use mathlib.Core.List.{List, ◌∷◌, ◌++◌}
use Prim.Native.Nat.{ℕ, suc, ◌+◌, ◌*◌}
use native.Mathlib.Omega.{arith}
use lib.ListN.{length, length-append}
use Rattle.units.proofs.Runs.{run_length}
use Rattle.map.specs.Files.{pages}
use Rattle.map.specs.declared.Header.{Header}
use Rattle.listing.specs.Digits.{width, decimal, hex}
use Rattle.listing.specs.Lines.{n_word, page_word, bucket_word, pages_word, refused_word, line_end, named, two_named, header_line, columns, page_line, refused_line}
use Rattle.listing.proofs.Digits.{decimal_length, hex_length}

pub named_length : (word : List ℕ) (x : ℕ) → length (named word x) ≡ length word + width x
named_length word x = omega (arith, length-append word (decimal x), decimal_length x)

pub two_named_length : (one : List ℕ) (x : ℕ) (two : List ℕ) (y : ℕ) → length (two_named one x two y) ≡ length one + width x + (length two + width y)
two_named_length one x two y = omega (arith, length-append (named one x) (named two y), named_length one x, named_length two y)

pub header_line_length : (h : Header) → length (header_line h) ≡ 24 + width h.n + width h.page.count + width h.bucket.count + width (pages h)
unfolding header_line
header_line_length h =
    let one : List ℕ = two_named n_word h.n page_word h.page.count in
    let two : List ℕ = two_named bucket_word h.bucket.count pages_word (pages h) in
    omega (
      arith,
      length-append one two,
      length-append (one ++ two) line_end,
      two_named_length n_word h.n page_word h.page.count,
      two_named_length bucket_word h.bucket.count pages_word (pages h),
    )

pub column_length : (x : ℕ) → length (32 ∷ hex x) ≡ 5
column_length x = ap suc (hex_length x)

pub columns_length : (n : ℕ) (s : ℕ → ℕ) → length (columns n s) ≡ 5 * n
unfolding columns
columns_length n s = omega (arith, run_length (λ j. 32 ∷ hex (s j)) 5 (λ j. column_length (s j)) n 1)

pub page_line_length : (n k : ℕ) (s : ℕ → ℕ) → length (page_line n k s) ≡ width k + 5 * n + 1
unfolding page_line
page_line_length n k s =
    omega (arith, length-append (decimal k) (columns n s), length-append (decimal k ++ columns n s) line_end, decimal_length k, columns_length n s)

pub refused_line_length : (place : ℕ) → length (refused_line place) ≡ 16 + width place
unfolding refused_line
refused_line_length place = omega (arith, length-append (named refused_word place) line_end, named_length refused_word place)
