-- `field::times_power` meets its contract. The invariant: r times the power of s that is left is what is asked for.
-- Assumes nothing.
use mathlib.Core.Path.{◌≡◌, sym, ap, ap₂, ◌∙◌}
use Prim.Native.Nat.{ℕ, ◌/◌}
use native.Mathlib.Omega.{arith}
use Rattle.field.specs.Field.{GF16, product, power}
use Rattle.field.proofs.Products.{product_one}
use Rattle.field.proofs.Powers.{power_zero, power_halves}
use Rattle.field.proofs.Instances.{GF16_formed}
use Rattle.field.proofs.times_power.Goals as goal

pub loop-left-preserved : goal.loop-left-preserved
loop-left-preserved c =
    let at : _ = c.loop-left in (
      omega arith,
      omega arith,
      ap₂ (λ (r s : ℕ). product GF16 r (power GF16 s (at.left / 2))) c.raised-r.ensures c.product-s.ensures
          ∙ sym (power_halves GF16 GF16_formed at.left at.invariant.0 at.invariant.1)
          ∙ at.invariant.2,
    )

pub returns : goal.returns
returns c =
    let at : _ = c.loop-left in
    let none : at.left ≡ 0 = omega arith in
    sym (product_one GF16 GF16_formed at.invariant.0)
    ∙ ap (product GF16 at.r) (sym (ap (power GF16 at.s) none ∙ power_zero GF16 GF16_formed at.s))
    ∙ at.invariant.2
