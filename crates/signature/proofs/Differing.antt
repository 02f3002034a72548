-- Objects of one length that differ in no symbol are one: so two that differ at all differ in at least one symbol.
-- Assumes nothing.
use mathlib.Core.Path.{◌≡◌, sym, ap, ◌∙◌}
use mathlib.Core.Logic.{◌≢◌, dite}
use mathlib.Core.Bool.{not}
use mathlib.Core.List.{List}
use Prim.Native.Nat.{ℕ, zero, suc, ◌+◌, ◌-◌, ◌*◌, ◌/◌, ◌%◌, ◌≤◌, ◌<◌}
use native.Mathlib.Nat.{not-suc-le-zero, le_of_suc-le-suc, suc-add, add-suc, add-zero, div-add-mod', mod-lt, pos_of_ne-zero, mul-le-mul_right}
use native.Mathlib.Decide.{dec_lt}
use native.Mathlib.Omega.{arith}
use lib.Dec.{eqb}
use lib.ListN.{length, get_or}
use lib.Seq.{ext_get_or}
use borrow.Author.Tests.{eqb-true, not-false}
use Rattle.signature.specs.Objects.{Octets, low_first, symbol, symbols}
use Rattle.signature.specs.Differences.{differing}
use Rattle.signature.proofs.Counting.{count_zero}

-- bytes below 256 are told by the number that they make
digits_told : (x y p q : ℕ) → x < 256 → y < 256 → x + 256 * p ≡ y + 256 * q → (x ≡ y) × (p ≡ q)
digits_told x y p q hx hy e = (omega arith, omega arith)

low_first_told : (size : ℕ) (one other : List ℕ) (at : ℕ) → Octets one → Octets other → low_first size one at ≡ low_first size other at
    → (k : ℕ) → k < size → get_or one (at + k) 0 ≡ get_or other (at + k) 0
unfolding low_first
low_first_told zero one other at one-octets other-octets e k h = absurd (not-suc-le-zero h)
low_first_told (suc size) one other at one-octets other-octets e zero h =
    let both : _ = digits_told (get_or one at 0) (get_or other at 0) (low_first size one (suc at)) (low_first size other (suc at)) (one-octets at) (other-octets at) e in
    ap (λ (i : ℕ). get_or one i 0) (add-zero at) ∙ both.0 ∙ ap (λ (i : ℕ). get_or other i 0) (sym (add-zero at))
low_first_told (suc size) one other at one-octets other-octets e (suc k) h =
    let both : _ = digits_told (get_or one at 0) (get_or other at 0) (low_first size one (suc at)) (low_first size other (suc at)) (one-octets at) (other-octets at) e in
    ap (λ (i : ℕ). get_or one i 0) (add-suc at k ∙ sym (suc-add at k))
    ∙ low_first_told size one other (suc at) one-octets other-octets both.1 k (le_of_suc-le-suc h)
    ∙ ap (λ (i : ℕ). get_or other i 0) (suc-add at k ∙ sym (add-suc at k))

-- the symbol that a byte of the object is in
symbol_of_byte : (size : ℕ) → 0 < size → (bytes : List ℕ) (i : ℕ) → i < length bytes → i / size < symbols size bytes
symbol_of_byte size some bytes i h =
    dite (dec_lt (i / size) (symbols size bytes)) (λ l. l)
    (λ g.
    let below : symbols size bytes * size ≤ i / size * size = mul-le-mul_right {m = symbols size bytes} {n = i / size} size (omega arith) in
    absurd
    (omega
    (arith, div-add-mod' i size, div-add-mod' (length bytes + (size - 1)) size, mod-lt (length bytes + (size - 1)) some)))

module _ (size : ℕ) (some : 0 < size) (one other : List ℕ) (one-octets : Octets one) (other-octets : Octets other) (lengths : length one ≡ length other) where
  pub none_differs : differing size one other ≡ 0 → one ≡ other
  unfolding differing symbol
  none_differs none = ext_get_or 0 one other lengths byte
    where
      same : (i : ℕ) → i < symbols size one → symbol size one i ≡ symbol size other i
      same i h =
          eqb-true (symbol size one i) (symbol size other i)
          (not-false (eqb (symbol size one i) (symbol size other i))
          (count_zero (symbols size one) (λ i. not (eqb (symbol size one i) (symbol size other i))) none i h))

      byte : (i : ℕ) → i < length one → get_or one i 0 ≡ get_or other i 0
      byte i h =
          ap (λ (n : ℕ). get_or one n 0) (sym (div-add-mod' i size))
          ∙ low_first_told size one other (i / size * size) one-octets other-octets (same (i / size) (symbol_of_byte size some one i h)) (i % size) (mod-lt i some)
          ∙ ap (λ (n : ℕ). get_or other n 0) (div-add-mod' i size)

  pub some_differs : one ≢ other → 1 ≤ differing size one other
  some_differs apart = pos_of_ne-zero (λ none. apart (none_differs none))
