-- `repair::put_symbol` meets its contract: both bytes, or the one that the page has.
-- Assumes nothing.
use mathlib.Core.List.{List}
use mathlib.Core.Path.{◌≡◌, ◌∙◌, ap₂}
use Prim.Native.Nat.{ℕ, ◌-◌, ◌*◌, ◌≤◌, ◌<◌}
use native.Mathlib.Omega.{arith}
use lib.ListN.{length, set, get_or}
use Rattle.units.specs.Writing.{part_put}
use Rattle.signature.specs.Objects.{low_bytes}
use Rattle.repair.proofs.Changed.{put_both, put_low}
use Rattle.repair.proofs.put_symbol.Goals as goal

pub returns-then-page-at-gt1 : goal.returns-then-page-at-gt1
returns-then-page-at-gt1 c =
    let args : _ = c.args in
    let inside : _ = c.requires in
    let at : c.bytes_of-at.result.count ≡ args.i.count * 2 = omega (arith, c.bytes_of-at.ensures) in
    let room : 1 < length args.page.now - args.i.count * 2 = omega arith in
    c.put_two_bytes.ensures ∙ ap₂ (λ (x k : ℕ). part_put (low_bytes 2 x) args.page.now k) c.from.ensures at
    ∙ put_both args.page.now args.i.count args.x inside room

pub returns : goal.returns
unfolding low_bytes
returns c =
    let args : _ = c.args in
    let at : c.bytes_of-at.result.count ≡ args.i.count * 2 = omega (arith, c.bytes_of-at.ensures) in
    let room : length args.page.now - args.i.count * 2 ≤ 1 = omega arith in
    ap₂ (λ (k : ℕ) (l : List ℕ). set args.page.now k (get_or l 0 0)) at c.low_bytes.ensures ∙ put_low args.page.now args.i.count args.x c.requires room
