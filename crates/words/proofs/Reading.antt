-- Words of an object: eight bytes are a word, low byte first, and past the end there are zeros.
-- Assumes nothing.
use mathlib.Core.Path.{◌≡◌, refl, sym, ap, ap₂, ◌∙◌}
use mathlib.Core.List.{List, reverse, reverse-cons, [], ◌∷◌, ◌++◌}
use Prim.Native.Nat.{ℕ, zero, suc, ◌+◌, ◌*◌, ◌/◌, ◌^◌, ◌%◌, ◌≤◌, ◌<◌}
use native.Mathlib.Nat.{lt_of_lt_of_le, pow-le-pow_right}
use native.Mathlib.Omega.{arith}
use lib.ListN.{length, get_or, get_or-eq_default, length-take, take, drop}
use lib.Seq.{get_or-take, get_or-drop, drop-drop}
use Rattle.std.proofs.lemmas.List.{length_push, get_or_push, get_or_append_left}
use Rattle.std.proofs.lemmas.List.Sums.{fold-append}
use Rattle.std.specs.List.{fold}
use Rattle.std.specs.Int.{w64, from_le_bytes}
use Rattle.std.specs.Simd.{first_chunks}
use Rattle.components.specs.Objects.{Octets, low_first}
use Rattle.components.proofs.Octets.{low_first_lt}

-- ---- one word

low_first_same : (size : ℕ) (xs ys : List ℕ) (a b : ℕ) → ((m n : ℕ) → a ≤ m → m < a + size → m + b ≡ n + a → get_or xs m 0 ≡ get_or ys n 0) → low_first size xs a ≡ low_first size ys b
unfolding low_first
low_first_same zero xs ys a b same = refl
low_first_same (suc size) xs ys a b same =
    ap₂ (λ (x y : ℕ). x + 256 * y) (same a b (omega arith) (omega arith) (omega arith))
    (low_first_same size xs ys (suc a) (suc b) (λ m n above below e. same m n (omega (arith, above)) (omega (arith, below)) (omega (arith, e))))

pub none_read : (size : ℕ) (bytes : List ℕ) (at : ℕ) → length bytes ≤ at → low_first size bytes at ≡ 0
unfolding low_first
none_read zero bytes at past = refl
none_read (suc size) bytes at past = ap₂ (λ (x y : ℕ). x + 256 * y) (get_or-eq_default bytes 0 past) (none_read size bytes (suc at) (omega (arith, past)))

low_drop : (at : ℕ) (bytes : List ℕ) → low_first 8 (drop at bytes) 0 ≡ low_first 8 bytes at
low_drop at bytes = low_first_same 8 (drop at bytes) bytes 0 at (λ m n above below e. get_or-drop at bytes m 0 ∙ ap (λ (k : ℕ). get_or bytes k 0) (omega (arith, e)))

low_take : (n at : ℕ) (bytes : List ℕ) → at + 8 ≤ n → low_first 8 (take n bytes) at ≡ low_first 8 bytes at
low_take n at bytes inside =
    low_first_same 8 (take n bytes) bytes at at (λ m k above below e. get_or-take n bytes m 0 (omega (arith, inside, below)) ∙ ap (λ (i : ℕ). get_or bytes i 0) (omega (arith, e)))

low : (bytes : List ℕ) → from_le_bytes w64 bytes ≡ low_first 8 bytes 0
unfolding low_first
low bytes = omega arith

-- ---- a word that is cut off, from the last byte down

abbrev pub byte_above : ℕ → ℕ → ℕ
byte_above x byte = x * 256 % 2 ^ 64 + byte

pub bytes_folded : (size : ℕ) (bytes : List ℕ) → length bytes ≤ size → size ≤ 8 → Octets bytes → fold byte_above 0 (reverse bytes) ≡ low_first size bytes 0
unfolding low_first
bytes_folded size [] short few octets = sym (none_read size [] 0 (omega arith))
bytes_folded zero (byte ∷ bytes) short few octets = absurd (omega (arith, short))
bytes_folded (suc size) (byte ∷ bytes) short few octets =
    ap (fold byte_above 0) (reverse-cons byte bytes)
    ∙ fold-append byte_above 0 (reverse bytes) (byte ∷ [])
    ∙ ap (λ (x : ℕ). byte_above x byte) (bytes_folded size bytes (omega (arith, short)) (omega (arith, few)) (λ i. octets (suc i)) ∙ low_first_same size bytes (byte ∷ bytes) 0 1 (λ m n above below e. ap (λ (k : ℕ). get_or (byte ∷ bytes) k 0) {x = suc m} (omega (arith, e))))
    ∙ joined
  where
    above : ℕ
    above = low_first size (byte ∷ bytes) 1

    seven : size ≤ 7
    seven = omega (arith, few)

    room : above < 256 ^ 7
    room = lt_of_lt_of_le (low_first_lt size (byte ∷ bytes) 1 octets) (pow-le-pow_right (omega arith) seven)

    joined : byte_above above byte ≡ low_first (suc size) (byte ∷ bytes) 0
    joined = omega (arith, room)

-- ---- whole words

-- chunks of eight bytes that are an object's from its start on
pub record Chunks (object : List ℕ) (chunks : List (List ℕ)) : Type 0 where
  pub inside : length chunks * 8 ≤ length object
  pub read : (k : ℕ) → k < length chunks → from_le_bytes w64 (get_or chunks k []) ≡ low_first 8 object (k * 8)

chunk_at : (n i : ℕ) (bytes : List ℕ) → i < n → get_or (first_chunks 8 n bytes) i [] ≡ take 8 (drop (i * 8) bytes)
chunk_at zero i bytes h = absurd (omega (arith, h))
chunk_at (suc n) zero bytes h = refl
chunk_at (suc n) (suc i) bytes h = chunk_at n i (drop 8 bytes) (omega (arith, h)) ∙ ap (take 8) (drop-drop (i * 8) 8 bytes ∙ ap (λ (k : ℕ). drop k bytes) (omega arith))

pub chunks_all : (object : List ℕ) {chunks : List (List ℕ)} → chunks ≡ first_chunks 8 (length object / 8) object → length chunks ≡ length object / 8 → Chunks object chunks
chunks_all object {chunks} e count =
    record {
      inside = omega (arith, count);
      read = λ k h.
          ap (λ (xs : List (List ℕ)). from_le_bytes w64 (get_or xs k [])) e
          ∙ ap (from_le_bytes w64) (chunk_at (length object / 8) k object (omega (arith, count, h)))
          ∙ low (take 8 (drop (k * 8) object))
          ∙ low_take 8 0 (drop (k * 8) object) (omega arith)
          ∙ low_drop (k * 8) object;
    }

pub chunks_front : (n : ℕ) (object : List ℕ) {front : List ℕ} {chunks : List (List ℕ)} → front ≡ take n object → n ≤ length object → Chunks front chunks → Chunks object chunks
chunks_front n object {front} {chunks} e within t =
    record {
      inside = omega (arith, t.inside, short, within);
      read = λ k h. t.read k h ∙ ap (λ (bytes : List ℕ). low_first 8 bytes (k * 8)) e ∙ low_take n (k * 8) object (omega (arith, h, t.inside, short));
    }
  where
    short : length front ≤ n
    short = omega (arith, ap length e, length-take n object)

module _ (object : List ℕ) {chunks : List (List ℕ)} (rest : List (List ℕ)) (last : List ℕ) (e : chunks ≡ rest ++ (last ∷ [])) (t : Chunks object chunks) where
  pub one_less : length chunks ≡ length rest + 1
  one_less = ap length e ∙ length_push rest last

  pub chunks_less : Chunks object rest
  chunks_less =
      record {
        inside = omega (arith, t.inside, one_less);
        read = λ k h.
            ap (from_le_bytes w64) (sym (ap (λ (xs : List (List ℕ)). get_or xs k []) e ∙ get_or_append_left rest (last ∷ []) [] k h)) ∙ t.read k (omega (arith, h, one_less));
      }

  pub chunk_last : from_le_bytes w64 last ≡ low_first 8 object (length rest * 8)
  chunk_last =
      ap (from_le_bytes w64) (sym (ap (λ (xs : List (List ℕ)). get_or xs (length rest) []) e ∙ get_or_push rest last [] (length rest) refl)) ∙ t.read (length rest) (omega (arith, one_less))

pub cut_read : (object : List ℕ) {cut : List ℕ} {n word : ℕ} → n ≡ length object / 8 → cut ≡ drop (length object / 8 * 8) object → word ≡ low_first 8 cut 0 → word ≡ low_first 8 object (n * 8)
cut_read object count e here =
    here ∙ ap (λ (bytes : List ℕ). low_first 8 bytes 0) e ∙ low_drop (length object / 8 * 8) object ∙ ap (λ (k : ℕ). low_first 8 object (k * 8)) (sym count)
