-- `caption::put_plain` meets its contract. The invariant: what undoes the weights is that of the places below i, and the symbols before place i, written over what is there, give the whole.
-- Assumes nothing.
use mathlib.Core.Path.{◌≡◌, refl, sym, ap, ◌∙◌}
use mathlib.Core.List.{List}
use Prim.Native.Nat.{ℕ, suc, ◌+◌, ◌-◌, ◌%◌, ◌<◌, min}
use native.Mathlib.Nat.{add-zero}
use native.Mathlib.Omega.{arith}
use lib.ListN.{length, get_or, take}
use Rattle.units.specs.Writing.{written}
use Rattle.field.proofs.Instances.{GF16_passes, GF16_formed}
use Rattle.field.proofs.Products.{one_product}
use Rattle.field.proofs.Powers.{α_power}
use Rattle.field.specs.Field.{GF16, product, doubled, power, α}
use Rattle.caption.proofs.Pairs.{changes_front}
use Rattle.caption.specs.Codes as Codes
use Rattle.caption.specs.Codes.{plain}
use Rattle.caption.specs.Recoding.{bytes, decoded}
use Rattle.caption.proofs.Codes.{as_weight, unweight_turn, unweight_on}
use Rattle.caption.proofs.Rows.{row_none}
use Rattle.caption.proofs.Turns.{Refilled, first_long, still_long, weighed_long, weighed_at}
use Rattle.weights.proofs.Turns.{in_both}
use Rattle.caption.proofs.put_plain.Invariants.{plainly}
use Rattle.caption.proofs.put_plain.Goals as goal

pub loop-i-init : goal.loop-i-init
loop-i-init c =
    let exponent-back : _ = c.exponent_back in
    let times_power : _ = c.times_power in
    let args : _ = c.args in
    let count : ℕ = length args.symbols.now in
    let top : times_power.result ≡ Codes.unweight GF16 0 count =
    times_power.ensures
    ∙ ap (λ (k : ℕ). product GF16 1 (power GF16 α k)) exponent-back.ensures
    ∙ one_product GF16 GF16_formed (α_power GF16 GF16_formed _)
    ∙ ap (λ (k : ℕ). power GF16 α (65535 - k % 65535)) (sym (add-zero count)) in
    record {
      inside = omega arith;
      unweights_are = λ l h inside.
          let up : count ≡ suc (count - 1 - l + l) = omega (arith, inside) in
          c.put_weights.ensures.done l h
          ∙ as_weight GF16 _ l
          ∙ ap (λ (x : ℕ). product GF16 x (Codes.weight GF16 0 l))
          (c.double.ensures ∙ ap (doubled GF16) (top ∙ ap (Codes.unweight GF16 0) up) ∙ unweight_turn GF16 0 GF16_passes (count - 1 - l + l))
          ∙ unweight_on GF16 0 GF16_passes (count - 1 - l) l;
      put = refl;
    }

pub loop-i-preserved : goal.loop-i-preserved
unfolding plainly plain
loop-i-preserved c =
    let read : _ = c.read_changes in
    let weigh : _ = c.weigh in
    let at : _ = c.loop-i in
    let args : _ = c.args in
    let symbols : List (List ℕ) = args.symbols.now in
    let n : ℕ = c.least-n.result in
    let few : n ≡ min 16 at.i = c.least-n.ensures in
    let refilled : Refilled n at.block read.new.block = record { few = omega arith; long = c.least-n.array_long; as_read = read.auto.block } in
    let wide : length at.unweights ≡ 16 = omega arith in
    let sized : length (take n weigh.new.block) ≡ n = weighed_long refilled at.unweights wide weigh.ensures.product in
    let each : (l : ℕ) → l < length (take n weigh.new.block) → get_or (take n weigh.new.block) l 0 ≡ plainly symbols (at.i - 1 - l) =
    λ l h.
    let below : l < n = omega (arith, sized) in
    weighed_at refilled at.unweights wide weigh.ensures.product below (read.ensures l (omega (arith, first_long refilled)) ∙ changes_front at.i symbols l (omega arith) (omega (arith, below))) (at.invariant.unweights_are l (omega arith) (omega arith)) in
    record {
      inside = omega arith;
      unweights_are = λ l h inside.
          let down : at.i - 1 - l ≡ at.i - n - 1 - l + 16 = omega arith in
          weigh.ensures.weight.done l (in_both (still_long refilled) wide h)
          ∙ ap (λ (x : ℕ). product GF16 x (Codes.weight GF16 0 16)) (at.invariant.unweights_are l h (omega arith) ∙ ap (Codes.unweight GF16 0) down)
          ∙ unweight_on GF16 0 GF16_passes (at.i - n - 1 - l) 16;
      put = ap (λ (k : ℕ). written c.put_symbols.new.output 0 (bytes (at.i - k) (plainly symbols))) (sym sized) ∙ c.put_symbols.ensures (plainly symbols) each ∙ at.invariant.put;
    }

pub returns : goal.returns
unfolding plainly decoded
returns c =
    let args : _ = c.args in
    let at : _ = c.loop-i in
    let none : at.i ≡ 0 = omega arith in
    sym (row_none (plainly args.symbols.now) at.output)
    ∙ ap (λ (k : ℕ). written at.output 0 (bytes k (plainly args.symbols.now))) (sym none)
    ∙ at.invariant.put
