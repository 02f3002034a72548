-- `map::making::page_at` meets its contract: a page ends where the bucket does, or before; past its end there is none.
-- Assumes nothing.
use mathlib.Core.Path.{◌≡◌, ap, ◌∙◌}
use mathlib.Core.List.{List}
use Prim.Native.Nat.{ℕ, ◌-◌, ◌*◌, min}
use native.Mathlib.Omega.{arith}
use lib.ListN.{length, take, drop, length-drop}
use Rattle.std.proofs.lemmas.List.{take_min, drop_min}
use Rattle.map.specs.Buckets.{page_at}
use Rattle.map.proofs.making.page_at.Goals as goal

-- what stands from one place to the other
between : (size k : ℕ) (bucket : List ℕ) (start end : ℕ) → start ≡ min (k * size) (length bucket) → end - start ≡ min size (length (drop start bucket))
    → take (end - start) (drop start bucket) ≡ page_at size bucket k
unfolding page_at
between size k bucket start end here long =
    ap (λ (m : ℕ). take m (drop start bucket)) long ∙ take_min size (drop start bucket)
    ∙ ap (take size) (ap (λ (m : ℕ). drop m bucket) here ∙ drop_min (k * size) bucket)

pub returns : goal.returns
returns c =
    let size : ℕ = c.args.page.count in
    let bucket : List ℕ = c.args.bucket.now in
    let start : ℕ = c.min-start.result in
    between size c.args.k bucket start c.min-end.result (omega (arith, c.saturating_mul.ensures, c.min-start.ensures))
    (omega (arith, length-drop start bucket, c.min-start.ensures, c.saturating_add.ensures, c.min-end.ensures))

pub returns-then-start-end : goal.returns-then-start-end
returns-then-start-end c =
    let size : ℕ = c.args.page.count in
    let bucket : List ℕ = c.args.bucket.now in
    let start : ℕ = c.min-start.result in
    let none : 0 ≡ c.min-end.result - start = omega (arith, c.if-start-end.true) in
    ap (λ (m : ℕ). take m (drop start bucket)) none
    ∙ between size c.args.k bucket start c.min-end.result (omega (arith, c.saturating_mul.ensures, c.min-start.ensures))
    (omega (arith, length-drop start bucket, c.min-start.ensures, c.saturating_add.ensures, c.min-end.ensures))
