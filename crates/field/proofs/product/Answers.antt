-- `field::product` meets its contract. The invariant: r and the product of what is left sum to the product that is asked for.
-- Assumes nothing.
use mathlib.Core.Path.{◌≡◌, sym, ap, ap₂, ◌∙◌}
use Prim.Native.Nat.{ℕ, ◌/◌, ◌%◌}
use native.Mathlib.Omega.{arith}
use Rattle.field.specs.Field.{GF16, ◌⊕◌, scaled, product, doubled}
use Rattle.field.proofs.Sums.{zero_sum, sum_zero}
use Rattle.field.proofs.Powers.{product_zero, product_turn}
use Rattle.field.proofs.Instances.{GF16_formed}
use Rattle.field.proofs.product.Goals as goal

pub loop-y-init : goal.loop-y-init
loop-y-init c =
    (omega arith, omega arith, zero_sum (product GF16 c.args.a c.args.b))

pub loop-y-preserved : goal.loop-y-preserved
loop-y-preserved c =
    let at : _ = c.loop-y in
    let part : c.scaled.result ≡ scaled (at.y % 2) at.x = c.scaled.ensures in
    let twice : c.double-x.result ≡ doubled GF16 at.x = c.double-x.ensures in (
      omega arith,
      omega arith,
      ap₂ (λ (n x : ℕ). n ⊕ product GF16 x (at.y / 2)) (c.sum-r.ensures ∙ ap (λ (n : ℕ). n ⊕ at.r) part) twice
          ∙ product_turn GF16 GF16_formed at.r at.invariant.0 at.invariant.1
          ∙ at.invariant.2,
    )

pub returns : goal.returns
returns c =
    sym (sum_zero c.loop-y.r)
    ∙ ap (λ (n : ℕ). c.loop-y.r ⊕ n) (sym (product_zero GF16 GF16_formed c.loop-y.x))
    ∙ ap (λ (n : ℕ). c.loop-y.r ⊕ product GF16 c.loop-y.x n) (omega arith)
    ∙ c.loop-y.invariant.2
