-- A product modulo m, from its factors modulo m.
-- Assumes nothing.
use mathlib.Core.Path.{◌≡◌, sym, ap, ◌∙◌}
use Prim.Native.Nat.{ℕ, ◌+◌, ◌*◌, ◌/◌, ◌%◌}
use native.Mathlib.Nat.{add-mul, mul_assoc, mul_comm, div-add-mod', mul-add-mod_self_right}

mod_left : (a b m : ℕ) → a * b % m ≡ a % m * b % m
mod_left a b m =
    ap (λ (n : ℕ). n * b % m) (sym (div-add-mod' a m))
    ∙ ap (λ (n : ℕ). n % m)
    (add-mul (a / m * m) (a % m) b
    ∙ ap (λ (n : ℕ). n + a % m * b) (mul_assoc (a / m) m b ∙ ap (λ (n : ℕ). a / m * n) (mul_comm m b) ∙ sym (mul_assoc (a / m) b m)))
    ∙ mul-add-mod_self_right (a / m * b) m (a % m * b)

pub mul_mod : (a b m : ℕ) → a % m * (b % m) % m ≡ a * b % m
mul_mod a b m =
    ap (λ (n : ℕ). n % m) (mul_comm (a % m) (b % m))
    ∙ sym (mod_left b (a % m) m)
    ∙ ap (λ (n : ℕ). n % m) (mul_comm b (a % m))
    ∙ sym (mod_left a b m)
