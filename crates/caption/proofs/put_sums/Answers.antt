-- `caption::put_sums` meets its contract. The invariant: the sum is the code's symbol before place i + l, and the code up to there is written.
-- Assumes nothing.
use mathlib.Core.Path.{◌≡◌, sym, ap, ◌∙◌}
use mathlib.Core.List.{List}
use Prim.Native.Nat.{ℕ, suc, ◌+◌, ◌*◌, ◌≤◌}
use native.Mathlib.Omega.{arith}
use lib.ListN.{length, get_or}
use Rattle.units.specs.Writing.{written}
use Rattle.field.specs.Field.{◌⊕◌}
use Rattle.signature.proofs.Numbers.{two_bytes_put}
use Rattle.signature.specs.Objects.{low_bytes}
use Rattle.caption.specs.Recoding.{bytes}
use Rattle.caption.specs.Codes.{previous}
use Rattle.caption.proofs.Rows.{row_up}
use Rattle.caption.proofs.put_sums.Goals as goal

pub loop-l-preserved : goal.loop-l-preserved
loop-l-preserved c =
    let added : _ = c.sum-sum in
    let x : ℕ = c.from.result in
    let at : _ = c.loop-l in
    let args : _ = c.args in
    let here : ℕ = args.i + at.l in
    let up : args.i + (at.l + 1) ≡ suc here = omega arith in
    let fits : here * 2 + 2 ≤ length at.output = omega arith in
    let put : c.put_two_bytes.new.output ≡ written at.output (here * 2) (low_bytes 2 x) = c.put_two_bytes.ensures ∙ two_bytes_put x at.output (here * 2) fits in
    λ code old long from each so.
    let before : _ = at.invariant code old long from each so in
    let room : suc here * 2 ≤ length old = omega (arith, long) in
    let is : added.result ≡ code here = added.ensures ∙ ap (λ (x : ℕ). x ⊕ get_or args.block.now at.l 0) before.0 ∙ each at.l (omega arith) in (
      is ∙ ap (previous code) (sym up),
      put
          ∙ ap (λ (o : List ℕ). written o (here * 2) (low_bytes 2 x)) before.1
          ∙ row_up code old here room (c.from.ensures ∙ is)
          ∙ ap (λ (k : ℕ). written old 0 (bytes k code)) (sym up),
    )
