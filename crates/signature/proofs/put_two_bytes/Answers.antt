-- `signature::put_two_bytes` meets its contract: two stores are the two bytes, where there is room for them.
-- Assumes nothing.
use mathlib.Core.Path.{◌≡◌, sym, ap, ◌∙◌}
use mathlib.Core.List.{List}
use Prim.Native.Nat.{ℕ, ◌+◌, ◌/◌, ◌%◌, ◌≤◌}
use native.Mathlib.Numerals.{add-one}
use native.Mathlib.Omega.{arith}
use lib.ListN.{length, get_or, set}
use Rattle.units.specs.Writing.{written}
use Rattle.units.proofs.Writing.{written_sets, part_put_lem, part_passed}
use Rattle.signature.specs.Objects.{low_bytes}
use Rattle.signature.proofs.Numbers.{low_bytes_length}
use Rattle.signature.proofs.put_two_bytes.Goals as goal
use Rattle.signature.proofs.put_two_bytes.Goals.{then-output-lt2-via-then-output-lt2, then-output-lt2-via-else-output-lt2+then-at-output}

both : (old : List ℕ) (at x : ℕ) → at + length (low_bytes 2 x) ≤ length old
    → set (set old at (x % 256)) (at + 1) (x / 256 % 256) ≡ written old at (low_bytes 2 x)
unfolding low_bytes
both old at x fits = ap (λ (i : ℕ). set (set old at (x % 256)) i (x / 256 % 256)) (add-one at) ∙ sym (written_sets old at (low_bytes 2 x) fits)

pub returns-then-output-lt2 : goal.returns-then-output-lt2
returns-then-output-lt2 c =
    let args : _ = c.args in
    part_passed (low_bytes 2 args.x) args.output.now args.at (elim c.then-output-lt2.branch [
      | then-output-lt2-via-then-output-lt2 w ↦ omega (arith, w.if-output-lt2.true, low_bytes_length 2 args.x)
      | then-output-lt2-via-else-output-lt2+then-at-output w ↦ omega (arith, w.if-output-lt2.false, w.if-at-output.true, low_bytes_length 2 args.x)
    ])

pub returns : goal.returns
returns c =
    let args : _ = c.args in
    let fits : args.at + length (low_bytes 2 args.x) ≤ length args.output.now = omega (arith, low_bytes_length 2 args.x) in
    ap (λ (l : List ℕ). set (set args.output.now args.at (get_or l 0 0)) (args.at + 1) (get_or l 1 0)) c.to_le_bytes.ensures
    ∙ both args.output.now args.at args.x fits
    ∙ sym (part_put_lem (low_bytes 2 args.x) args.output.now args.at fits)
