-- What a turn of the loops over blocks does: a block is read and weighed.
-- Assumes nothing.
use mathlib.Core.Path.{◌≡◌, ap₂, ◌∙◌}
use mathlib.Core.List.{List, ◌++◌}
use lib.ListN.{length, get_or, take, drop, length-append, get_or-append}
use Prim.Native.Nat.{ℕ, ◌≤◌, ◌<◌, min}
use native.Mathlib.Omega.{arith}
use Rattle.std.proofs.lemmas.List.{length-take-le, length-drop, get_or-take}
use Rattle.weights.specs.Blocks.{Set}
use Rattle.weights.proofs.Turns.{in_both}
use Rattle.field.specs.Field.{GF16, product}

-- a block of 16 whose first n symbols were read anew
pub record Refilled (n : ℕ) (block read : List ℕ) : Type 0 where
  pub few : n ≤ 16
  pub long : length block ≡ 16
  pub as_read : length read ≡ length (take n block)

module _ {n : ℕ} {block read : List ℕ} (r : Refilled n block read) where
  pub first_long : length (take n block) ≡ n
  first_long = length-take-le n block (omega (arith, r.few, r.long))

  pub still_long : length (read ++ drop n block) ≡ 16
  still_long = omega (arith, length-append read (drop n block), length-drop n block, first_long, r.few, r.long, r.as_read)

  -- and that was weighed
  module _ (weights : List ℕ) {new : List ℕ} (wide : length weights ≡ 16)
      (s : Set (λ l. product GF16 (get_or (read ++ drop n block) l 0) (get_or weights l 0)) (read ++ drop n block) (min (length (read ++ drop n block)) (length weights)) new) where
    pub weighed_long : length (take n new) ≡ n
    weighed_long = length-take-le n new (omega (arith, s.long, still_long, r.few))

    pub weighed_at : {x y l : ℕ} → l < n → get_or read l 0 ≡ x → get_or weights l 0 ≡ y → get_or (take n new) l 0 ≡ product GF16 x y
    weighed_at {l = l} below is its =
        get_or-take n new l 0 below
        ∙ s.done l (in_both still_long wide (omega (arith, r.few)))
        ∙ ap₂ (product GF16) (get_or-append read (drop n block) 0 l (omega (arith, r.as_read, first_long)) ∙ is) its
