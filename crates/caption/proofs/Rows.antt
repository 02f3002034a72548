-- Symbols as bytes in a row: how long they are, how a row is written symbol by symbol, upward or downward, and how it is read back.
-- Assumes nothing.
use mathlib.Core.Path.{◌≡◌, sym, ap, ap₂, ◌∙◌}
use mathlib.Core.List.{List, ◌++◌}
use Prim.Native.Nat.{ℕ, zero, suc, ◌+◌, ◌-◌, ◌*◌, ◌%◌, ◌≤◌, ◌<◌}
use native.Mathlib.Nat.{zero-add, add-zero}
use native.Mathlib.Omega.{arith}
use lib.ListN.{length, take, drop}
use lib.Seq.{take_all}
use Rattle.units.specs.Runs.{end_to_end}
use Rattle.units.specs.Writing.{written}
use Rattle.units.proofs.Runs.{run_none, run_length, run_at, run_same, run_back, run_up, run_down}
use Rattle.units.proofs.Writing.{written_none}
use Rattle.signature.specs.Objects.{Octets, low_first, low_bytes, symbol, symbols}
use Rattle.signature.proofs.Numbers.{low_bytes_length, low_first_after, written_read, read_written}
use Rattle.signature.proofs.Octets.{append_octets, low_bytes_octets}
use Rattle.signature.proofs.Parts.{symbols_whole, whole_length}
use Rattle.caption.specs.Recoding.{bytes}

module _ (s : ℕ → ℕ) where
  sized : (k : ℕ) → length (low_bytes 2 (s k)) ≡ 2
  sized k = low_bytes_length 2 (s k)

  pub row_length : (m : ℕ) → length (bytes m s) ≡ m * 2
  row_length m = run_length (λ k. low_bytes 2 (s k)) 2 sized m 0

  -- no symbol yet
  pub row_none : (old : List ℕ) → written old 0 (bytes 0 s) ≡ old
  row_none old = ap (written old 0) (run_none (λ k. low_bytes 2 (s k)) 0) ∙ written_none old 0 (omega arith)

  module _ (old : List ℕ) (i : ℕ) (fits : suc i * 2 ≤ length old) where
    -- symbol i put after those before it
    pub row_up : {x : ℕ} → x ≡ s i → written (written old 0 (bytes i s)) (i * 2) (low_bytes 2 x) ≡ written old 0 (bytes (suc i) s)
    row_up is =
        ap (λ (x : ℕ). written (written old 0 (bytes i s)) (i * 2) (low_bytes 2 x)) is
        ∙ run_up (λ k. low_bytes 2 (s k)) 2 sized old i fits

    -- symbol i put first, and those before it to follow
    pub row_down : {x : ℕ} → x ≡ s i → written (written old (i * 2) (low_bytes 2 x)) 0 (bytes i s) ≡ written old 0 (bytes (suc i) s)
    row_down is =
        ap (λ (x : ℕ). written (written old (i * 2) (low_bytes 2 x)) 0 (bytes i s)) is
        ∙ run_down (λ k. low_bytes 2 (s k)) 2 sized old i fits

  pub row_octets : (m : ℕ) → Octets (bytes m s)
  unfolding end_to_end
  row_octets m = run_octets m 0
    where
      run_octets : (m k : ℕ) → Octets (end_to_end (λ i. low_bytes 2 (s i)) k m)
      run_octets zero k = λ i. omega arith
      run_octets (suc m) k = append_octets (low_bytes 2 (s k)) (end_to_end (λ i. low_bytes 2 (s i)) (suc k) m) (low_bytes_octets 2 (s k)) (run_octets m (suc k))

  pub row_symbols : (m : ℕ) → symbols 2 (bytes m s) ≡ m
  row_symbols m = symbols_whole 2 (omega arith) (bytes m s) m (row_length m)

  -- each symbol is read back
  pub row_symbol : (m i : ℕ) → i < m → s i < 65536 → symbol 2 (bytes m s) i ≡ s i
  unfolding symbol
  row_symbol m i inside small =
      let f : ℕ → List ℕ = λ k. low_bytes 2 (s k) in
      let front : List ℕ = end_to_end f 0 i in
      let after : List ℕ = end_to_end f (suc (0 + i)) (m - suc i) in
      let place : i * 2 ≡ length front + 0 = sym (add-zero (length front) ∙ run_length f 2 sized i 0) in
      ap₂ (low_first 2) (run_at f 0 i m inside) place
      ∙ low_first_after 2 front (f (0 + i) ++ after) 0
      ∙ ap (λ (k : ℕ). low_first 2 (f k ++ after) 0) (zero-add i)
      ∙ written_read 2 (s i) after small

pub row_same : (s t : ℕ → ℕ) (m : ℕ) → ((i : ℕ) → i < m → s i ≡ t i) → bytes m s ≡ bytes m t
row_same s t m same =
    run_same (λ i. low_bytes 2 (s i)) (λ i. low_bytes 2 (t i)) m 0
    (λ i low high. ap (low_bytes 2) (same i (omega arith)))

-- the row of a list's own symbols is the list
pub row_own : (l : List ℕ) → Octets l → length l % 2 ≡ 0 → bytes (symbols 2 l) (symbol 2 l) ≡ l
unfolding symbol
row_own l octets even =
    let whole : length l ≡ symbols 2 l * 2 = whole_length 2 (omega arith) l even in
    run_back (λ i. low_bytes 2 (low_first 2 l (i * 2))) 2 l (symbols 2 l) 0 0
    (λ i inside.
    let here : (0 + i) * 2 + 2 ≤ length l = omega arith in
    let place : (0 + i) * 2 ≡ 0 + i * 2 = omega arith in
    read_written 2 l ((0 + i) * 2) octets here ∙ ap (λ (k : ℕ). take 2 (drop k l)) place)
    ∙ take_all (symbols 2 l * 2) l (omega arith)
