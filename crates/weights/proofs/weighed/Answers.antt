-- `weights::weighed` meets its contract. The invariant: r and the product of what is left sum to the product that is asked for, and x is the weight so many symbols on.
-- Assumes nothing.
use mathlib.Core.Path.{◌≡◌, sym, ap, ap₂, ◌∙◌}
use Prim.Native.Nat.{ℕ, ◌/◌, ◌%◌, ◌^◌, ◌<◌}
use native.Mathlib.Omega.{arith}
use native.Mathlib.Nat.{div-one}
use lib.Pow.{shr_le, shr-shr}
use Rattle.field.proofs.Instances.{GF16_formed}
use Rattle.field.proofs.Powers.{product_zero, product_turn}
use Rattle.field.proofs.Products.{product_comm}
use Rattle.field.proofs.Sums.{zero_sum, sum_zero}
use Rattle.field.specs.Field.{GF16, ◌⊕◌, scaled, product, doubled}
use Rattle.weights.proofs.Turns.{digit_scaled, first_weight, next_weight}
use Rattle.weights.proofs.weighed.Goals as goal

pub loop-init : goal.loop-init
loop-init c =
    let args : _ = c.args in
    record {
      y_is = sym (div-one args.symbol);
      sum_is = zero_sum (product GF16 args.weight args.symbol);
      x_is = sym (first_weight args.weight (omega arith));
    }

pub loop-preserved : goal.loop-preserved
loop-preserved c =
    let at : _ = c.loop in
    let args : _ = c.args in
    let small : at.y < 65536 = omega (arith, shr_le args.symbol at.counter, at.invariant.y_is) in
    let part : c.sum-r.result ≡ scaled (at.y % 2) at.x ⊕ at.r = c.sum-r.ensures ∙ ap (λ (n : ℕ). n ⊕ at.r) (digit_scaled (at.y % 2) at.x (omega arith)) in
    let twice : c.double-x.result ≡ doubled GF16 at.x = c.double-x.ensures in
    record {
      y_is = ap (λ (n : ℕ). n / 2) at.invariant.y_is ∙ shr-shr args.symbol at.counter 1;
      sum_is = ap₂ (λ (n x : ℕ). n ⊕ product GF16 x (at.y / 2)) part twice ∙ product_turn GF16 GF16_formed at.r (omega arith) small ∙ at.invariant.sum_is;
      x_is = twice ∙ ap (doubled GF16) at.invariant.x_is ∙ sym (next_weight args.weight at.counter (omega arith));
    }

pub returns-clause-product : goal.returns-clause-product
returns-clause-product c =
    let at : _ = c.loop in
    let args : _ = c.args in
    let all : at.counter ≡ 16 = omega arith in
    let none : at.y ≡ 0 = at.invariant.y_is ∙ ap (λ (k : ℕ). args.symbol / 2 ^ k) all ∙ omega arith in
    sym (sum_zero at.r)
    ∙ ap (λ (n : ℕ). at.r ⊕ n) (sym (product_zero GF16 GF16_formed at.x) ∙ ap (product GF16 at.x) (sym none))
    ∙ at.invariant.sum_is
    ∙ product_comm GF16 GF16_formed (omega arith) (omega arith)
