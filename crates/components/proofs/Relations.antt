-- The relations hold, each by one computed test of the components that it is used for.
-- Assumes nothing.
use mathlib.Core.Path.{◌≡◌, sym, ap, ◌∙◌}
use mathlib.Core.Bool.{Bool}
use Prim.Native.Nat.{ℕ, zero, suc, ◌-◌, ◌*◌, ◌≤◌}
use native.Mathlib.Nat.{mul-le-mul_right, mul-le-mul_left, le_trans}
use native.Mathlib.Omega.{arith}
use lib.Dec.{T, leb, eqb, leb→le, le→leb, eqb→eq}
use Rattle.field.specs.Field.{GF16, ◌⊕◌, digit, reduced, doubled, power, α}
use Rattle.field.proofs.Powers.{worked, raised, climbed}
use Rattle.field.proofs.Tests.{below, at_below, α_climbed, α_climbs}
use Rattle.field.proofs.Instances.{GF16_passes}
use Rattle.components.specs.Relations.{Relation, summed, Holds, pair_far, four_far, own, third}
use Rattle.components.proofs.Folds.{inside, summed_same}

-- the test at j
unfoldable pub at : Relation → ℕ → Bool
at R j = eqb (summed (α_climbed GF16 (j * R.distance)) R.offsets (λ o. α_climbed GF16 (j * (R.distance - o)))) 0

pub record Passes (R : Relation) (j : ℕ) : Type 0 where
  pub within : T (inside R.distance R.offsets)
  pub small : T (leb (j * R.distance) 65535)
  pub there : T (at R j)

pub holds : (R : Relation) (j : ℕ) → Passes R j → Holds R j
unfolding at
holds R j passes =
    ap (λ (x : ℕ). summed x R.offsets (λ o. power GF16 α (j * (R.distance - o)))) (sym (climbs R.distance (omega arith)))
    ∙ summed_same R.distance R.offsets passes.within _ _ (λ o. α_climbed GF16 (j * (R.distance - o))) (λ o k l. sym (climbs (R.distance - o) (omega arith)))
    ∙ eqb→eq _ 0 passes.there
  where
    climbs : (d : ℕ) → d ≤ R.distance → α_climbed GF16 (j * d) ≡ power GF16 α (j * d)
    climbs d l = α_climbs GF16 GF16_passes (j * d) (omega (arith, le_trans (mul-le-mul_left j l) (leb→le (j * R.distance) 65535 passes.small)))

-- ---- far, for the components from 1 on

pub record Keeps (n : ℕ) (R : Relation) : Type 0 where
  pub within : T (inside R.distance R.offsets)
  pub small : T (leb (n * R.distance) 65535)
  pub each : T (below (λ i. at R (suc i)) n)

pub keeps_holds : (n : ℕ) (R : Relation) → Keeps n R → (j : ℕ) → 1 ≤ j → j ≤ n → Holds R j
keeps_holds n R keeps zero one h = elim one [ ]
keeps_holds n R keeps (suc i) one h =
    holds R (suc i)
    (record {
      within = keeps.within;
      small = le→leb _ _ (le_trans (mul-le-mul_right R.distance h) (leb→le (n * R.distance) 65535 keeps.small));
      there = at_below (λ i. at R (suc i)) n keeps.each i h;
    })

pub pair_far_keeps : Keeps 2 pair_far
unfolding inside below at summed α_climbed climbed raised worked doubled reduced digit ◌⊕◌
pair_far_keeps = record { within = tt; small = tt; each = tt }

pub four_far_keeps : Keeps 4 four_far
unfolding inside below at summed α_climbed climbed raised worked doubled reduced digit ◌⊕◌
four_far_keeps = record { within = tt; small = tt; each = tt }

-- ---- in words

pub own_passes : (j : ℕ) → T (at own j) → T (leb (j * 16) 65535) → Holds own j
unfolding inside
own_passes j there small = holds own j (record { within = tt; small = small; there = there })

pub own_1 : Holds own 1
unfolding at summed α_climbed climbed raised worked doubled reduced digit ◌⊕◌
own_1 = own_passes 1 tt tt

pub own_2 : Holds own 2
unfolding at summed α_climbed climbed raised worked doubled reduced digit ◌⊕◌
own_2 = own_passes 2 tt tt

pub own_4 : Holds own 4
unfolding at summed α_climbed climbed raised worked doubled reduced digit ◌⊕◌
own_4 = own_passes 4 tt tt

pub third_3 : Holds third 3
unfolding inside at summed α_climbed climbed raised worked doubled reduced digit ◌⊕◌
third_3 = holds third 3 (record { within = tt; small = tt; there = tt })
