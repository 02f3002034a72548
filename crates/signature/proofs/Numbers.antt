-- Numbers of several bytes, low byte first: how they are put together, and that reading and writing them undo each other.
-- Assumes nothing.
use mathlib.Core.Path.{◌≡◌, refl, sym, ap, ap₂, ◌∙◌}
use mathlib.Core.Logic.{dite}
use mathlib.Core.List.{List, ◌∷◌, ◌++◌}
use Prim.Native.Nat.{ℕ, zero, suc, ◌+◌, ◌*◌, ◌/◌, ◌%◌, ◌^◌, ◌≤◌, ◌<◌, min}
use native.Mathlib.Nat.{add-zero, add-suc, pow-suc, add_assoc, not-suc-le-zero, le_of_suc-le-suc}
use native.Mathlib.Numerals.{add-one}
use native.Mathlib.Decide.{dec_lt}
use native.Mathlib.Omega.{arith}
use lib.ListN.{length, get_or, take, drop, get_or-eq_default}
use lib.Seq.{drop-cons, get_or-drop, drop-append_seam}
use Rattle.units.specs.Writing.{written, part_put}
use Rattle.units.proofs.Writing.{part_put_lem}
use Rattle.signature.specs.Objects.{Octets, low_first, low_bytes}

-- ---- reading

pub one_byte : (bytes : List ℕ) (at : ℕ) → low_first 1 bytes at ≡ get_or bytes at 0
unfolding low_first
one_byte bytes at = add-zero (get_or bytes at 0)

pub two_bytes : (bytes : List ℕ) (at : ℕ) → low_first 2 bytes at ≡ get_or bytes at 0 + get_or bytes (at + 1) 0 * 256
unfolding low_first
two_bytes bytes at = rw add-one (omega arith)

pub four_bytes : (bytes : List ℕ) (at : ℕ) → low_first 4 bytes at ≡ low_first 2 bytes at + low_first 2 bytes (at + 2) * 65536
unfolding low_first
four_bytes bytes at =
    let up : at + 2 ≡ suc (suc at) = omega arith in
    rw up (omega arith)

-- a number is made of what stands from its place on
pub low_first_drop : (size : ℕ) (bytes : List ℕ) (at i : ℕ) → low_first size bytes (at + i) ≡ low_first size (drop at bytes) i
unfolding low_first
low_first_drop zero bytes at i = refl
low_first_drop (suc size) bytes at i =
    ap₂ (λ (x y : ℕ). x + 256 * y) (sym (get_or-drop at bytes i 0)) (ap (low_first size bytes) (sym (add-suc at i)) ∙ low_first_drop size bytes at (suc i))

pub low_first_after : (size : ℕ) (front rest : List ℕ) (i : ℕ) → low_first size (front ++ rest) (length front + i) ≡ low_first size rest i
low_first_after size front rest i =
    low_first_drop size (front ++ rest) (length front) i ∙ ap (λ (l : List ℕ). low_first size l i) (drop-append_seam front rest)

-- past the end there are zeros, wherever one looks
past_end : (bytes : List ℕ) (at i : ℕ) → get_or bytes (min at (length bytes) + i) 0 ≡ get_or bytes (at + i) 0
past_end bytes at i =
    dite (dec_lt (length bytes) at)
    (λ (past : length bytes < at).
    let one : length bytes ≤ min at (length bytes) + i = omega arith in
    let other : length bytes ≤ at + i = omega arith in
    get_or-eq_default bytes 0 one ∙ sym (get_or-eq_default bytes 0 other))
    (λ inside. let same : min at (length bytes) ≡ at = omega arith in ap (λ (k : ℕ). get_or bytes (k + i) 0) same)

pub byte_within : (bytes : List ℕ) (at : ℕ) → get_or bytes (min at (length bytes)) 0 ≡ get_or bytes at 0
byte_within bytes at =
    ap (λ (k : ℕ). get_or bytes k 0) (sym (add-zero (min at (length bytes)))) ∙ past_end bytes at 0 ∙ ap (λ (k : ℕ). get_or bytes k 0) (add-zero at)

pub two_bytes_within : (bytes : List ℕ) (at i : ℕ) → low_first 2 bytes (min at (length bytes) + 1 + i) ≡ low_first 2 bytes (at + 1 + i)
two_bytes_within bytes at i =
    let low : get_or bytes (min at (length bytes) + 1 + i) 0 ≡ get_or bytes (at + 1 + i) 0 =
    ap (λ (k : ℕ). get_or bytes k 0) (add_assoc (min at (length bytes)) 1 i) ∙ past_end bytes at (1 + i) ∙ ap (λ (k : ℕ). get_or bytes k 0) (sym (add_assoc at 1 i)) in
    let near : min at (length bytes) + 1 + i + 1 ≡ min at (length bytes) + (2 + i) = omega arith in
    let far : at + (2 + i) ≡ at + 1 + i + 1 = omega arith in
    let high : get_or bytes (min at (length bytes) + 1 + i + 1) 0 ≡ get_or bytes (at + 1 + i + 1) 0 =
    ap (λ (k : ℕ). get_or bytes k 0) near ∙ past_end bytes at (2 + i) ∙ ap (λ (k : ℕ). get_or bytes k 0) far in
    two_bytes bytes (min at (length bytes) + 1 + i) ∙ ap₂ (λ (x y : ℕ). x + y * 256) low high ∙ sym (two_bytes bytes (at + 1 + i))

-- ---- writing

pub low_bytes_length : (size x : ℕ) → length (low_bytes size x) ≡ size
unfolding low_bytes
low_bytes_length zero x = refl
low_bytes_length (suc size) x = ap suc (low_bytes_length size (x / 256))

pub two_bytes_put : (x : ℕ) (old : List ℕ) (at : ℕ) → at + 2 ≤ length old → part_put (low_bytes 2 x) old at ≡ written old at (low_bytes 2 x)
two_bytes_put x old at fits = part_put_lem (low_bytes 2 x) old at (omega (arith, low_bytes_length 2 x))

-- ---- and back

pub written_read : (size x : ℕ) (rest : List ℕ) → x < 256 ^ size → low_first size (low_bytes size x ++ rest) 0 ≡ x
unfolding low_first low_bytes
written_read zero x rest small = omega arith
written_read (suc size) x rest small =
    let fewer : x / 256 < 256 ^ size = omega (arith, pow-suc 256 size) in
    let behind : low_first size (x % 256 ∷ (low_bytes size (x / 256) ++ rest)) 1 ≡ x / 256 =
    low_first_drop size (x % 256 ∷ (low_bytes size (x / 256) ++ rest)) 1 0 ∙ written_read size (x / 256) rest fewer in
    omega arith

pub read_written : (size : ℕ) (bytes : List ℕ) (at : ℕ) → Octets bytes → at + size ≤ length bytes → low_bytes size (low_first size bytes at) ≡ take size (drop at bytes)
unfolding low_first low_bytes
read_written zero bytes at octets inside = refl
read_written (suc size) bytes at octets inside =
    let here : at < length bytes = omega arith in
    let low : (get_or bytes at 0 + 256 * low_first size bytes (suc at)) % 256 ≡ get_or bytes at 0 = omega (arith, octets at) in
    let high : (get_or bytes at 0 + 256 * low_first size bytes (suc at)) / 256 ≡ low_first size bytes (suc at) = omega (arith, octets at) in
    rw (drop-cons bytes at 0 here) (ap₂ {C = List ℕ} (λ x l. x ∷ l) low (ap (low_bytes size) high ∙ read_written size bytes (suc at) octets (omega arith)))

-- byte by byte, past the end too
pub bytes_read : (size : ℕ) (bytes : List ℕ) (at : ℕ) → Octets bytes → (k : ℕ) → k < size → get_or bytes (at + k) 0 ≡ get_or (low_bytes size (low_first size bytes at)) k 0
unfolding low_first low_bytes
bytes_read zero bytes at octets k inside = absurd (not-suc-le-zero inside)
bytes_read (suc size) bytes at octets zero inside =
    let low : get_or bytes at 0 ≡ (get_or bytes at 0 + 256 * low_first size bytes (suc at)) % 256 = omega (arith, octets at) in
    ap (λ (i : ℕ). get_or bytes i 0) (add-zero at) ∙ low
bytes_read (suc size) bytes at octets (suc k) inside =
    let high : low_first size bytes (suc at) ≡ (get_or bytes at 0 + 256 * low_first size bytes (suc at)) / 256 = omega (arith, octets at) in
    let next : at + suc k ≡ suc at + k = omega arith in
    ap (λ (i : ℕ). get_or bytes i 0) next
    ∙ bytes_read size bytes (suc at) octets k (le_of_suc-le-suc inside)
    ∙ ap (λ (x : ℕ). get_or (low_bytes size x) k 0) high
