-- GF(2^16) and GF(2^8) pass the tests, so that every law holds in both.
-- Assumes nothing.
use mathlib.Core.Path.{◌≡◌, refl, sym}
use mathlib.Core.Logic.{◌↔◌}
use Prim.Native.Nat.{ℕ, ◌*◌, ◌%◌}
use Rattle.units.specs.Counts.{exponent_at}
use Rattle.field.specs.Field.{GF16, GF8, ◌⊕◌, digit, expanded, reduced, product, doubled, power, α}
use Rattle.field.proofs.Products.{Formed}
use Rattle.field.proofs.Powers.{worked, raised, climbed}
use Rattle.field.proofs.Tests.{Passes, formed, below, α_climbed, no_return}
use Rattle.field.proofs.Orders.{power_mod}
use Rattle.field.proofs.Laws.{Laws, laws}

pub GF16_passes : Passes GF16
unfolding below no_return α_climbed climbed raised worked doubled reduced digit ◌⊕◌
GF16_passes = record { wide = tt; degree = tt; returns = tt; not_sooner = tt }

pub GF8_passes : Passes GF8
unfolding below no_return α_climbed climbed raised worked doubled reduced digit ◌⊕◌
GF8_passes = record { wide = tt; degree = tt; returns = tt; not_sooner = tt }

pub GF16_formed : Formed GF16
GF16_formed = formed GF16 GF16_passes

pub GF16_laws : Laws GF16
GF16_laws = laws GF16 GF16_passes

pub GF8_laws : Laws GF8
GF8_laws = laws GF8 GF8_passes

pub GF16_order : (k : ℕ) → (power GF16 α k ≡ 1) ↔ (k % 65535 ≡ 0)
GF16_order = GF16_laws.order_exact

pub GF8_order : (k : ℕ) → (power GF8 α k ≡ 1) ↔ (k % 255 ≡ 0)
GF8_order = GF8_laws.order_exact

pub α_by_8000 : product GF16 α 0x8000 ≡ 0x100B
unfolding product reduced expanded digit ◌⊕◌
α_by_8000 = refl

-- the rounds that an exponent leaves out change no power
pub exponent_power : (component position : ℕ) → power GF16 α (exponent_at component position) ≡ power GF16 α (component * position)
exponent_power component position = sym (power_mod GF16 GF16_passes (component * position))
