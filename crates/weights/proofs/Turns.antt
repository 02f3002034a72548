-- What a block and a turn of the loops over it are: its content is one, a digit of a symbol is added, and a weight is doubled.
-- Assumes nothing.
use mathlib.Core.Path.{◌≡◌, sym, ap, ◌∙◌}
use mathlib.Core.Logic.{dite}
use native.Mathlib.Decide.{dec_lt}
use mathlib.Core.List.{List}
use Prim.Native.Nat.{ℕ, zero, suc, ◌+◌, ◌*◌, ◌^◌, ◌<◌, min}
use native.Mathlib.Nat.{zero-mul, one-mul}
use native.Mathlib.Numerals.{add-one}
use native.Mathlib.Omega.{arith}
use lib.Seq.{ext_get_or}
use Rattle.weights.specs.Blocks.{Set}
use Rattle.field.specs.Field.{GF16, scaled, doubled, product, power, α}
use Rattle.field.proofs.Products.{product_doubled, product_one}
use Rattle.field.proofs.Powers.{power_zero, power_doubled}
use Rattle.field.proofs.Instances.{GF16_formed}

-- a block is set in one way only
pub set_once : {value : ℕ → ℕ} {old one other : List ℕ} {l : ℕ} → Set value old l one → Set value old l other → one ≡ other
set_once {l = l} s t =
    ext_get_or 0 _ _ (s.long ∙ sym t.long)
    (λ k h. dite (dec_lt k l) (λ (b : k < l). s.done k b ∙ sym (t.done k b)) (λ b. s.kept k (omega (arith, b)) ∙ sym (t.kept k (omega (arith, b)))))

-- a place of two whole blocks
pub in_both : {a b l : ℕ} → a ≡ 16 → b ≡ 16 → l < 16 → l < min a b
in_both e f h = omega (arith, e, f, h)

-- a digit times a symbol, as a product of numbers

pub digit_scaled : (d x : ℕ) → d < 2 → d * x ≡ scaled d x
digit_scaled zero x h = zero-mul x
digit_scaled (suc zero) x h = one-mul x
digit_scaled (suc (suc d)) x h = absurd (omega arith)

-- the first weight, and each other one, which is the double of the one before

pub first_weight : (x : ℕ) → x < 2 ^ 16 → product GF16 x (power GF16 α 0) ≡ x
first_weight x h = ap (product GF16 x) (power_zero GF16 GF16_formed α) ∙ product_one GF16 GF16_formed h

pub next_weight : (x k : ℕ) → x < 2 ^ 16 → product GF16 x (power GF16 α (k + 1)) ≡ doubled GF16 (product GF16 x (power GF16 α k))
next_weight x k h =
    ap (λ (j : ℕ). product GF16 x (power GF16 α j)) (add-one k)
    ∙ sym (power_doubled GF16 GF16_formed k h)
    ∙ product_doubled GF16 GF16_formed (power GF16 α k) h
