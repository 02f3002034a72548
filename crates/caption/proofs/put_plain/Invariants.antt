-- `caption::put_plain` meets its contract. The invariant: what undoes the weights is that of the places below i, and the symbols before place i, written over what is there, give the whole.
-- Assumes nothing.
use mathlib.Core.Path.{◌≡◌}
use mathlib.Core.List.{List}
use Prim.Native.Nat.{ℕ, ◌-◌, ◌≤◌, ◌<◌}
use lib.ListN.{get_or, length}
use Rattle.units.specs.Writing.{written}
use Rattle.field.specs.Field.{GF16}
use Rattle.caption.specs.Pairs.{symbol_in}
use Rattle.caption.specs.Codes as Codes
use Rattle.caption.specs.Codes.{plain}
use Rattle.caption.specs.Recoding.{bytes}
use Rattle.caption.proofs.put_plain.Given as goal

-- the plain symbols
unfoldable pub plainly : List (List ℕ) → ℕ → ℕ
plainly symbols = plain GF16 0 (symbol_in symbols)

abbrev pub invariant-loop-i : goal.invariant-loop-i
invariant-loop-i l =
    record {
      inside : l.i ≤ length l.symbols;
      unweights_are : (k : ℕ) → k < 16 → k < l.i → get_or l.unweights k 0 ≡ Codes.unweight GF16 0 (l.i - 1 - k);
      put : written l.output 0 (bytes l.i (plainly l.symbols)) ≡ written l.initial.output 0 (bytes (length l.symbols) (plainly l.symbols));
    }

abbrev pub decreases-loop-i : goal.decreases-loop-i
decreases-loop-i l =
    l.i
