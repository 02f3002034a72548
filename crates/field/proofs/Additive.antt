-- Maps that take sums to sums. Two of them that agree on the powers of two below 2^n agree on every number below 2^n.
-- Assumes nothing.
use mathlib.Core.Path.{◌≡◌, refl, sym, ap, ap₂, ◌∙◌, subst}
use Prim.Native.Nat.{ℕ, zero, suc, ◌+◌, ◌*◌, ◌/◌, ◌%◌, ◌^◌, ◌<◌}
use native.Mathlib.Nat.{mod-lt, zero-mul, one-mul, le_step, lt-suc_self}
use native.Mathlib.Numerals.{one-add}
use native.Mathlib.Omega.{arith}
use lib.Arith.{lt-one}
use lib.Bits.{xor_shr, xor_mod}
use lib.Pow.{pow_pos, split, shr_lt}
use Rattle.field.specs.Field.{◌⊕◌, scaled}
use Rattle.field.proofs.Sums.{sum_self, sum_cross, sum_shift, sum_split}

abbrev pub Additive : (ℕ → ℕ) → Type 0
Additive f = (a b : ℕ) → f (a ⊕ b) ≡ f a ⊕ f b

pub at_zero : (f : ℕ → ℕ) → Additive f → f 0 ≡ 0
at_zero f h = ap f (sym (sum_self 0)) ∙ h 0 0 ∙ sum_self (f 0)

pub at_scaled : (f : ℕ → ℕ) → Additive f → (d a : ℕ) → f (scaled d a) ≡ scaled d (f a)
at_scaled f h zero a = at_zero f h
at_scaled f h (suc d) a = refl

module _ (f g : ℕ → ℕ) (hf : Additive f) (hg : Additive g) where
  -- a digit at place n
  top : (n q : ℕ) → q < 2 → f (2 ^ n) ≡ g (2 ^ n) → f (q * 2 ^ n) ≡ g (q * 2 ^ n)
  top n zero h e = ap f (zero-mul (2 ^ n)) ∙ at_zero f hf ∙ sym (ap g (zero-mul (2 ^ n)) ∙ at_zero g hg)
  top n (suc zero) h e = ap f (one-mul (2 ^ n)) ∙ e ∙ sym (ap g (one-mul (2 ^ n)))
  top n (suc (suc q)) h e = absurd (omega arith)

  pub agree : (n : ℕ) → ((i : ℕ) → i < n → f (2 ^ i) ≡ g (2 ^ i)) → (a : ℕ) → a < 2 ^ n → f a ≡ g a
  agree zero e a h = ap f (lt-one h) ∙ at_zero f hf ∙ sym (ap g (lt-one h) ∙ at_zero g hg)
  agree (suc n) e a h =
      ap f (sym parts) ∙ hf (a / 2 ^ n * 2 ^ n) (a % 2 ^ n)
      ∙ ap₂ ◌⊕◌ (top n (a / 2 ^ n) (shr_lt 1 n bound) (e n (lt-suc_self n))) (agree n (λ i k. e i (le_step k)) (a % 2 ^ n) (mod-lt a (pow_pos n)))
      ∙ sym (ap g (sym parts) ∙ hg (a / 2 ^ n * 2 ^ n) (a % 2 ^ n))
    where
      parts : a / 2 ^ n * 2 ^ n ⊕ a % 2 ^ n ≡ a
      parts = sum_split (a / 2 ^ n) n (mod-lt a (pow_pos n)) ∙ split a n

      bound : a < 2 ^ (1 + n)
      bound = subst (λ (k : ℕ). a < 2 ^ k) (sym (one-add n)) h

-- ---- additive maps from additive maps: shifts, digits cut off, sums of maps and one after another

pub record Adds (f : ℕ → ℕ) : Type 0 where
  pub adds : Additive f

pub both : {f g : ℕ → ℕ} → Adds f → Adds g → Adds (λ a. f a ⊕ g a)
both {f} {g} hf hg = record { adds = λ a b. ap₂ ◌⊕◌ (hf.adds a b) (hg.adds a b) ∙ sum_cross (f a) (f b) (g a) (g b) }

pub after : {f g : ℕ → ℕ} → Adds f → Adds g → Adds (λ a. f (g a))
after {f} {g} hf hg = record { adds = λ a b. ap f (hg.adds a b) ∙ hf.adds (g a) (g b) }

pub same : Adds (λ a. a)
same = record { adds = λ a b. refl }

pub down : (k : ℕ) → Adds (λ a. a / 2 ^ k)
unfolding ◌⊕◌
down k = record { adds = λ a b. xor_shr a b k }

pub low : (w : ℕ) → Adds (λ a. a % 2 ^ w)
unfolding ◌⊕◌
low w = record { adds = λ a b. xor_mod a b w }

-- up by k digits, of which w are kept
pub up : (w k : ℕ) → Adds (λ a. a * 2 ^ k % 2 ^ w)
up w k = after (low w) (record { adds = sum_shift k })
