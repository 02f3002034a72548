-- `fold::fold` meets its contract. The invariant: the window stands for the page above the blocks that are left, which are whole.
-- Assumes nothing.
use mathlib.Core.Path.{◌≡◌, ap, ◌∙◌}
use mathlib.Core.List.{List}
use Prim.Native.Nat.{ℕ, ◌+◌, ◌-◌, ◌*◌, ◌<◌}
use native.Mathlib.Omega.{arith}
use lib.ListN.{length, length-append}
use Rattle.std.specs.Slice.Exact.{rchunks_exact_rest}
use Rattle.fold.proofs.Standing.{Cut, cut, even_below, none_below, raised, standing_first, standing_further, standing_landed}
use Rattle.fold.proofs.fold.Goals as goal

pub loop-part-init : goal.loop-part-init
loop-part-init g c =
    let law : _ = g.met.R.Relation in
    let fits : _ = c.requires in
    let page : List ℕ = c.args.page.now in
    let part : List ℕ = c.split_at.result.1.now in
    let block : ℕ = length c.args.window.now - c.REACH.result in
    let blocks : List ℕ = rchunks_exact_rest c.rchunks_exact-part-items.result in
    let even : block ≡ fits.block * 2 = omega (arith, fits.whole, c.REACH.ensures, law.reached) in
    let k : Cut page blocks part block = cut page _ part _ blocks block (omega (arith, even, fits.some))
    c.split_at.ensures.front c.split_at.ensures.back c.split_at.ensures.front_len c.rchunks_exact-part-items.ensures.parts c.rchunks_exact-part-items.ensures.remainder_len in
    rw c.into_iter-part-iterator.ensures.into_iter_gives (record {
      stands = standing_first g.R.Relation.known g.R.Relation.up_to law.keeps c.args.window.now fits page (λ i. (c.type_inv.page i).fits) blocks part c.down.new.window
          k.joined (omega (arith, even, k.short)) (λ i. (c.type_inv.window i).fits) c.down.auto.window c.down.ensures;
      size = c.rchunks_exact-part-items.ensures.size;
      even = k.even;
      octets = λ i. (c.type_inv.window i).fits;
    })

pub loop-part-preserved : goal.loop-part-preserved
loop-part-preserved g c =
    let law : _ = g.met.R.Relation in
    let fits : _ = c.requires in
    let turn : _ = c.loop-part in
    let block : ℕ = length c.args.window.now - c.REACH.result in
    let rest : List ℕ = rchunks_exact_rest turn.part-iterator in
    let below : List ℕ = rchunks_exact_rest c.next.new.self in
    let even : block ≡ fits.block * 2 = omega (arith, fits.whole, c.REACH.ensures, law.reached) in
    let long : length c.in-Some.part.now ≡ block = c.in-Some.ensures.steps.2.1 ∙ turn.invariant.size in
    let one : length rest ≡ length below + block = ap length c.in-Some.ensures.steps.2.0 ∙ length-append below c.in-Some.part.now ∙ ap (λ (n : ℕ). length below + n) long in
    record {
      stands = standing_further g.R.Relation.known g.R.Relation.up_to law.keeps c.args.window.now fits c.args.page.now (λ i. (c.type_inv.page i).fits) rest below c.in-Some.part.now
          turn.window c.copy_within.new.self c.down-in-loop-part.new.window even (c.REACH-in-loop-part.ensures ∙ law.reached) c.in-Some.ensures.steps.2.0 long
          (λ i. (c.type_inv.window i).fits) (omega arith)
          (raised block _ _ _ c.copy_within.ensures.by_index.0) c.down-in-loop-part.ensures turn.invariant.stands;
      size = c.in-Some.ensures.steps.0 ∙ turn.invariant.size;
      even = even_below (length below) block one turn.invariant.even;
      octets = λ i. (c.type_inv.window i).fits;
    }

pub returns : goal.returns
returns g c =
    let law : _ = g.met.R.Relation in
    let fits : _ = c.requires in
    let turn : _ = c.loop-part in
    let block : ℕ = length c.args.window.now - c.REACH.result in
    let rest : List ℕ = rchunks_exact_rest turn.part-iterator in
    let short : length rest < block = omega (arith, c.in-None.ensures.steps.2.0, turn.invariant.size) in
    standing_landed g.R.Relation.known g.R.Relation.up_to c.args.page.now rest turn.window c.land.new.window (none_below (length rest) block turn.invariant.even short) law.reached
    turn.invariant.octets (omega (arith, fits.whole, law.reached)) turn.invariant.stands c.land.ensures
