-- `caption::put_symbols` meets its contract. The invariant: what is still to be written, over what is there, gives what all of it gives.
-- Assumes nothing.
use mathlib.Core.Path.{◌≡◌, ap, ◌∙◌}
use mathlib.Core.List.{List}
use Prim.Native.Nat.{ℕ, suc, ◌+◌, ◌-◌, ◌*◌, ◌≤◌}
use native.Mathlib.Omega.{arith}
use lib.ListN.{length}
use Rattle.units.specs.Writing.{written}
use Rattle.signature.proofs.Numbers.{two_bytes_put}
use Rattle.signature.specs.Objects.{low_bytes}
use Rattle.caption.specs.Recoding.{bytes}
use Rattle.caption.proofs.Rows.{row_down}
use Rattle.caption.proofs.put_symbols.Goals as goal

pub loop-l-preserved : goal.loop-l-preserved
loop-l-preserved c =
    let required : _ = c.requires in
    let at : _ = c.loop-l in
    let args : _ = c.args in
    let here : ℕ = args.i - 1 - at.l in
    let x : ℕ = c.from.result in
    let up : suc here ≡ args.i - at.l = omega arith in
    let down : args.i - (at.l + 1) ≡ here = omega arith in
    let fits : suc here * 2 ≤ length at.output = omega arith in
    let put : c.put_two_bytes.new.output ≡ written at.output (here * 2) (low_bytes 2 x) = c.put_two_bytes.ensures ∙ two_bytes_put x at.output (here * 2) (omega (arith, fits)) in
    λ s each.
    ap (λ (k : ℕ). written c.put_two_bytes.new.output 0 (bytes k s)) down
    ∙ ap (λ (o : List ℕ). written o 0 (bytes here s)) put
    ∙ row_down s at.output here fits (c.from.ensures ∙ each at.l (omega arith))
    ∙ ap (λ (k : ℕ). written at.output 0 (bytes k s)) up
    ∙ at.invariant s each
