-- `caption::put_code` meets its contract. The invariant: weights and sum are those of place i, where what is left begins, and the code of the symbols before it is written.
-- Assumes nothing.
use mathlib.Core.Path.{◌≡◌}
use mathlib.Core.List.{List}
use Prim.Native.Nat.{ℕ, ◌+◌, ◌-◌, ◌*◌, ◌<◌}
use lib.ListN.{get_or, length, drop}
use Rattle.units.specs.Writing.{written}
use Rattle.field.specs.Field.{GF16}
use Rattle.caption.specs.Pairs.{symbol_in}
use Rattle.caption.specs.Codes as Codes
use Rattle.caption.specs.Codes.{previous, coded}
use Rattle.caption.specs.Recoding.{bytes}
use Rattle.caption.proofs.put_code.Given as goal

-- the code's symbols
unfoldable pub code : List (List ℕ) → ℕ → ℕ
code symbols = coded GF16 0 (symbol_in symbols)

abbrev pub invariant-loop-k : goal.invariant-loop-k
invariant-loop-k l =
    let i : ℕ = length l.symbols - length l.k-iterator.iter.rest.now in
    record {
      size : l.k-iterator.iter.size ≡ 16;
      rest : l.k-iterator.iter.rest.now ≡ drop i l.symbols;
      place : 0 < length l.k-iterator.iter.rest.now → l.k-iterator.count * 16 ≡ i;
      weights_are : 0 < length l.k-iterator.iter.rest.now → (j : ℕ) → j < 16 → get_or l.weights j 0 ≡ Codes.weight GF16 0 (i + j);
      sum_is : l.sum ≡ previous (code l.symbols) i;
      put : l.output ≡ written l.initial.output 0 (bytes i (code l.symbols));
    }
