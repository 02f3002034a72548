-- The symbols of a part of an object, and how many there are.
-- Assumes nothing.
use mathlib.Core.Path.{◌≡◌, refl, sym, ap, ap₂, ◌∙◌, subst}
use mathlib.Core.List.{List, ◌++◌}
use Prim.Native.Nat.{ℕ, zero, suc, ◌+◌, ◌-◌, ◌*◌, ◌/◌, ◌%◌, ◌≤◌, ◌<◌, suc-le-suc}
use native.Mathlib.Nat.{add-mul, add_assoc, add-zero, add-suc, suc-add, suc-mul, zero-lt-suc, mul-le-mul_right, mul-add-div_right, div-eq_of_lt, div-add-mod', lt-suc_self, le_step}
use native.Mathlib.Omega.{arith}
use lib.ListN.{length, get_or, length-append, get_or-append, get_or-eq_default}
use lib.Seq.{get_or-append-add}
use Rattle.signature.specs.Objects.{low_first, symbol, symbols}

low_first_same : (size : ℕ) (one other : List ℕ) (at to : ℕ) → ((k : ℕ) → k < size → get_or one (at + k) 0 ≡ get_or other (to + k) 0)
    → low_first size one at ≡ low_first size other to
unfolding low_first
low_first_same zero one other at to e = refl
low_first_same (suc size) one other at to e =
    ap₂ (λ (x y : ℕ). x + 256 * y)
    (ap (λ (i : ℕ). get_or one i 0) (sym (add-zero at)) ∙ e 0 (zero-lt-suc size) ∙ ap (λ (i : ℕ). get_or other i 0) (add-zero to))
    (low_first_same size one other (suc at) (suc to)
    (λ k h.
    ap (λ (i : ℕ). get_or one i 0) (suc-add at k ∙ sym (add-suc at k))
    ∙ e (suc k) (suc-le-suc h)
    ∙ ap (λ (i : ℕ). get_or other i 0) (add-suc to k ∙ sym (suc-add to k))))

-- a byte of symbol i, of the first c symbols
pub byte_inside : (size c i k : ℕ) → i < c → k < size → i * size + k < c * size
byte_inside size c i k h l =
    let up : suc i * size ≤ c * size = mul-le-mul_right size h in
    omega (arith, suc-mul i size)

-- a symbol whose bytes stand at the same place in another list
pub symbol_same : (size : ℕ) (one other : List ℕ) (i : ℕ) → ((k : ℕ) → k < size → get_or one (i * size + k) 0 ≡ get_or other (i * size + k) 0)
    → symbol size one i ≡ symbol size other i
unfolding symbol
symbol_same size one other i e = low_first_same size one other (i * size) (i * size) e

-- past the end there are zeros
pub low_first_past : (size : ℕ) (bytes : List ℕ) (at : ℕ) → length bytes ≤ at → low_first size bytes at ≡ 0
unfolding low_first
low_first_past zero bytes at past = refl
low_first_past (suc size) bytes at past =
    ap₂ (λ (x y : ℕ). x + 256 * y) (get_or-eq_default bytes 0 past) (low_first_past size bytes (suc at) (le_step past))

-- c symbols that stand in one list from symbol a on, and at the front of another
pub symbol_part : (size : ℕ) (one other : List ℕ) (a c : ℕ) → ((k : ℕ) → k < c * size → get_or one (a * size + k) 0 ≡ get_or other k 0)
    → (i : ℕ) → i < c → symbol size one (a + i) ≡ symbol size other i
unfolding symbol
symbol_part size one other a c e i h =
    low_first_same size one other ((a + i) * size) (i * size)
    (λ k l. ap (λ (n : ℕ). get_or one n 0) (ap (λ (n : ℕ). n + k) (add-mul a i size) ∙ add_assoc (a * size) (i * size) k) ∙ e (i * size + k) (byte_inside size c i k h l))

pub symbols_whole : (size : ℕ) → 0 < size → (bytes : List ℕ) (c : ℕ) → length bytes ≡ c * size → symbols size bytes ≡ c
symbols_whole size some bytes c whole =
    ap (λ (n : ℕ). (n + (size - 1)) / size) whole
    ∙ mul-add-div_right some c (size - 1)
    ∙ ap (λ (n : ℕ). c + n) (div-eq_of_lt {n = size - 1} {m = size} (omega arith))
    ∙ add-zero c

-- bytes that leave no part of a symbol over
pub whole_length : (size : ℕ) → 0 < size → (bytes : List ℕ) → length bytes % size ≡ 0 → length bytes ≡ symbols size bytes * size
whole_length size some bytes even =
    let whole : length bytes ≡ length bytes / size * size = omega (arith, div-add-mod' (length bytes) size) in
    whole ∙ ap (λ (c : ℕ). c * size) (sym (symbols_whole size some bytes (length bytes / size) whole))

-- ---- two parts end to end, the first one of a whole symbols

module _ (size : ℕ) (some : 0 < size) (first second : List ℕ) (a : ℕ) (whole : length first ≡ a * size) where
  pub symbols_parts : symbols size (first ++ second) ≡ a + symbols size second
  symbols_parts =
      ap (λ (n : ℕ). (n + (size - 1)) / size) (length-append first second ∙ ap (λ (n : ℕ). n + length second) whole)
      ∙ ap (λ (n : ℕ). n / size) (add_assoc (a * size) (length second) (size - 1))
      ∙ mul-add-div_right some a (length second + (size - 1))

  pub symbol_first : (i : ℕ) → i < a → symbol size (first ++ second) i ≡ symbol size first i
  symbol_first i h =
      symbol_same size (first ++ second) first i
      (λ k l. get_or-append first second 0 (i * size + k) (subst (λ (n : ℕ). i * size + k < n) (sym whole) (byte_inside size a i k h l)))

  pub symbol_second : (i : ℕ) → symbol size (first ++ second) (a + i) ≡ symbol size second i
  symbol_second i =
      symbol_part size (first ++ second) second a (suc i)
      (λ k l. ap (λ (n : ℕ). get_or (first ++ second) (n + k) 0) (sym whole) ∙ get_or-append-add first second k 0)
      i (lt-suc_self i)
