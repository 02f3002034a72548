-- Symbols made of octets are elements of a field that is wide enough, and so are the differences of two objects.
-- Assumes nothing.
use mathlib.Core.Path.{◌≡◌, sym, ap, ◌∙◌, subst}
use mathlib.Core.Logic.{dite}
use mathlib.Core.List.{List, [], ◌∷◌, ◌++◌}
use Prim.Native.Nat.{ℕ, zero, suc, ◌+◌, ◌-◌, ◌*◌, ◌/◌, ◌%◌, ◌^◌, ◌≤◌, ◌<◌}
use native.Mathlib.Nat.{pow-suc, mul_comm, zero-lt-suc, lt_of_lt_of_le, mul-le-mul_left, le_refl}
use native.Mathlib.Decide.{dec_lt}
use native.Mathlib.Omega.{arith}
use lib.ListN.{length, get_or, take, drop, length-take, get_or-append, get_or-eq_default}
use lib.Seq.{get_or-append-add, get_or-take, get_or-drop}
use Rattle.field.specs.Field.{Field, Element, ◌⊕◌, GF16}
use Rattle.field.proofs.Sums.{sum_self, sum_lt}
use Rattle.components.specs.Objects.{Octets, low_first, low_bytes, symbol}

pub low_first_lt : (size : ℕ) (bytes : List ℕ) (at : ℕ) → Octets bytes → low_first size bytes at < 256 ^ size
unfolding low_first
low_first_lt zero bytes at octets = zero-lt-suc 0
low_first_lt (suc size) bytes at octets =
    let low : get_or bytes at 0 < 256 = octets at in
    let high : 256 * suc (low_first size bytes (suc at)) ≤ 256 * 256 ^ size = mul-le-mul_left 256 (low_first_lt size bytes (suc at) octets) in
    subst (λ (x : ℕ). get_or bytes at 0 + 256 * low_first size bytes (suc at) < x) (sym (pow-suc 256 size)) (omega (arith, mul_comm (256 ^ size) 256))

pub symbol_element : (F : Field) (size : ℕ) → 256 ^ size ≤ 2 ^ F.width → (bytes : List ℕ) → Octets bytes → (i : ℕ) → Element F (symbol size bytes i)
unfolding symbol
symbol_element F size wide bytes octets i = lt_of_lt_of_le (low_first_lt size bytes (i * size) octets) wide

pub GF16_symbol : (bytes : List ℕ) → Octets bytes → (i : ℕ) → Element GF16 (symbol 2 bytes i)
GF16_symbol = symbol_element GF16 2 (le_refl 65536)

-- ---- lists of octets

pub append_octets : (xs ys : List ℕ) → Octets xs → Octets ys → Octets (xs ++ ys)
append_octets xs ys one other i =
    dite (dec_lt i (length xs))
    (λ (early : i < length xs). rw (get_or-append xs ys 0 i early) (one i))
    (λ late.
    let place : i ≡ length xs + (i - length xs) = omega arith in
    subst (λ (x : ℕ). x < 256) (sym (ap (λ (k : ℕ). get_or (xs ++ ys) k 0) place ∙ get_or-append-add xs ys (i - length xs) 0)) (other (i - length xs)))

pub take_octets : (n : ℕ) (bytes : List ℕ) → Octets bytes → Octets (take n bytes)
take_octets n bytes octets i =
    dite (dec_lt i n)
    (λ (inside : i < n). rw (get_or-take n bytes i 0 inside) (octets i))
    (λ past.
    let short : length (take n bytes) ≤ i = omega (arith, length-take n bytes) in
    rw (get_or-eq_default (take n bytes) 0 short) (omega arith))

pub drop_octets : (n : ℕ) (bytes : List ℕ) → Octets bytes → Octets (drop n bytes)
drop_octets n bytes octets i = rw (get_or-drop n bytes i 0) (octets (n + i))

pub low_bytes_octets : (size x : ℕ) → Octets (low_bytes size x)
unfolding low_bytes
low_bytes_octets zero x = λ i. omega arith
low_bytes_octets (suc size) x = append_octets (x % 256 ∷ []) (low_bytes size (x / 256)) last (low_bytes_octets size (x / 256))
  where
    last : Octets (x % 256 ∷ [])
    last zero = omega arith
    last (suc i) = omega arith

-- ---- how two objects differ, symbol by symbol

unfoldable pub difference : ℕ → List ℕ → List ℕ → ℕ → ℕ
difference size one other i = symbol size one i ⊕ symbol size other i

pub difference_element : (F : Field) (size : ℕ) → 256 ^ size ≤ 2 ^ F.width → (one other : List ℕ) → Octets one → Octets other
    → (i : ℕ) → Element F (difference size one other i)
unfolding difference
difference_element F size wide one other one-octets other-octets i =
    sum_lt F.width (symbol_element F size wide one one-octets i) (symbol_element F size wide other other-octets i)

pub same_difference : (size : ℕ) (one other : List ℕ) (i : ℕ) → symbol size one i ≡ symbol size other i → difference size one other i ≡ 0
unfolding difference
same_difference size one other i same = ap (λ (x : ℕ). symbol size one i ⊕ x) (sym same) ∙ sum_self (symbol size one i)
