-- `caption::put_sums` meets its contract. The invariant: the sum is the code's symbol before place i + l, and the code up to there is written.
-- Assumes nothing.
use mathlib.Core.Path.{◌≡◌}
use mathlib.Core.List.{List}
use Prim.Native.Nat.{ℕ, ◌+◌, ◌<◌}
use lib.ListN.{length, get_or}
use Rattle.units.specs.Writing.{written}
use Rattle.field.specs.Field.{◌⊕◌}
use Rattle.caption.specs.Recoding.{bytes}
use Rattle.caption.specs.Codes.{previous}
use Rattle.caption.proofs.put_sums.Given as goal

abbrev pub invariant-loop-l : goal.invariant-loop-l
invariant-loop-l l =
    (code : ℕ → ℕ) (old : List ℕ) → length old ≡ length l.initial.output → l.start ≡ previous code l.i
    → ((k : ℕ) → k < length l.block → previous code (l.i + k) ⊕ get_or l.block k 0 ≡ code (l.i + k)) → l.initial.output ≡ written old 0 (bytes l.i code)
    → (l.sum ≡ previous code (l.i + l.l)) × (l.output ≡ written old 0 (bytes (l.i + l.l) code))
