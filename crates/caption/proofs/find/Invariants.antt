-- `caption::find` meets its contract. The invariant: the weighted signatures are those of the places from i on, and the hits before place i are noted.
-- Assumes nothing.
use mathlib.Core.Path.{◌≡◌}
use mathlib.Core.Bool.{Bool}
use mathlib.Core.List.{List}
use Prim.Native.Nat.{ℕ, ◌+◌, ◌-◌, ◌≤◌, ◌<◌}
use lib.ListN.{get_or, length}
use Rattle.field.specs.Field.{GF16, product}
use Rattle.signature.specs.Signatures.{signature}
use Rattle.signature.specs.Objects.{symbol, symbols}
use Rattle.caption.specs.Codes.{weight, hit, places}
use Rattle.caption.specs.Pairs.{symbol_in}
use Rattle.caption.specs.Blocks.{Notes}
use Rattle.caption.proofs.find.Given as goal

-- whether the pattern hits at a place
unfoldable pub hitting : List (List ℕ) → List ℕ → ℕ → Bool
hitting pairs pattern = hit GF16 0 (symbol_in pairs) (symbols 2 pattern) (symbol 2 pattern)

abbrev pub invariant-loop-i : goal.invariant-loop-i
invariant-loop-i l =
    record {
      inside : l.i ≤ places (length l.symbols) (symbols 2 l.pattern);
      weighed_is : l.i < places (length l.symbols) (symbols 2 l.pattern) → (k : ℕ) → k < 16 → get_or l.weighed k 0 ≡ product GF16 (signature GF16 2 l.pattern 1) (weight GF16 0 (l.i + k));
      same_list : l.hits.list.ghost_name ≡ l.initial.hits.list.ghost_name;
      noted : Notes (hitting l.symbols l.pattern) l.initial.hits.list.now l.i l.hits;
    }

abbrev pub decreases-loop-i : goal.decreases-loop-i
decreases-loop-i l =
    l.count - l.i
