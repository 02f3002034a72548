-- A field as pairs of bytes: each pair is a symbol, so that what is made of the pairs is what is made of the field; and how the pairs of a part stand in the whole.
-- Assumes nothing.
use mathlib.Core.Path.{◌≡◌, refl, sym, ap, ap₂, ◌∙◌}
use mathlib.Core.List.{List, [], ◌++◌}
use Prim.Native.Nat.{ℕ, zero, suc, ◌+◌, ◌-◌, ◌*◌, ◌/◌, ◌%◌, ◌<◌, ◌≤◌, min}
use native.Mathlib.Omega.{arith}
use lib.ListN.{length, get_or, take, drop, length-append, length-drop}
use lib.Dec.{eqb}
use lib.Seq.{get_or-take, get_or-drop, drop-drop, drop-append_seam}
use Rattle.std.proofs.lemmas.List.{length-take-le, get_or_append_left}
use Rattle.std.specs.Int.{w16, from_le_bytes}
use Rattle.std.specs.Simd.{first_chunks}
use Rattle.units.proofs.Naming.{named_same}
use Rattle.units.specs.Naming.{named}
use Rattle.field.specs.Field.{GF16, ◌⊕◌, product}
use Rattle.signature.specs.Objects.{symbol, symbols, low_first}
use Rattle.signature.specs.Signatures.{component}
use Rattle.caption.specs.Codes.{previous, coded, plain, hit, places, weight}
use Rattle.caption.specs.Pairs.{symbol_in, found_in}
use Rattle.caption.specs.Recoding.{bytes, encoded, decoded}
use Rattle.caption.specs.Searches.{found}
use Rattle.caption.proofs.Fields.{previous_below, coded_below, plain_below}
use Rattle.caption.proofs.Rows.{row_same}

-- the symbols of a part

symbol_front : (i : ℕ) (pairs : List (List ℕ)) (l : ℕ) → l < i → symbol_in (take i pairs) l ≡ symbol_in pairs l
symbol_front i pairs l below = ap (from_le_bytes w16) (get_or-take i pairs l [] below)

-- what the last of the first i symbols add to the code
pub changes_front : (i : ℕ) (pairs : List (List ℕ)) (l : ℕ) → i ≤ length pairs → l < i
    → symbol_in (take i pairs) (length (take i pairs) - 1 - l) ⊕ previous (symbol_in (take i pairs)) (length (take i pairs) - 1 - l)
    ≡ symbol_in pairs (i - 1 - l) ⊕ previous (symbol_in pairs) (i - 1 - l)
changes_front i pairs l fits below =
    ap (λ (m : ℕ). symbol_in (take i pairs) (m - 1 - l) ⊕ previous (symbol_in (take i pairs)) (m - 1 - l)) (length-take-le i pairs fits)
    ∙ ap₂ ◌⊕◌ (symbol_front i pairs (i - 1 - l) (omega (arith, below))) (previous_below i _ _ (symbol_front i pairs) (i - 1 - l) (omega arith))

chunk_at : (n i : ℕ) (bytes : List ℕ) → i < n → get_or (first_chunks 2 n bytes) i [] ≡ take 2 (drop (i * 2) bytes)
chunk_at zero i bytes h = absurd (omega (arith, h))
chunk_at (suc n) zero bytes h = refl
chunk_at (suc n) (suc i) bytes h = chunk_at n i (drop 2 bytes) (omega (arith, h)) ∙ ap (take 2) (drop-drop (i * 2) 2 bytes ∙ ap (λ (k : ℕ). drop k bytes) (omega arith))

module _ (caption : List ℕ) (even : length caption % 2 ≡ 0) {pairs : List (List ℕ)} (front : pairs ≡ first_chunks 2 (length caption / 2) caption)
    (count : length pairs ≡ length caption / 2) where
  pairs_count : length pairs ≡ symbols 2 caption
  pairs_count = omega (arith, count, even)

  pairs_symbol : (i : ℕ) → i < length pairs → symbol_in pairs i ≡ symbol 2 caption i
  unfolding symbol low_first
  pairs_symbol i inside =
      ap (λ (xs : List (List ℕ)). symbol_in xs i) front
      ∙ ap (from_le_bytes w16) (chunk_at (length caption / 2) i caption (omega (arith, count, inside)))
      ∙ omega (
        arith,
        get_or-take 2 (drop (i * 2) caption) 0 0 (omega arith),
        get_or-take 2 (drop (i * 2) caption) 1 0 (omega arith),
        get_or-drop (i * 2) caption 0 0,
        get_or-drop (i * 2) caption 1 0,
        ap (λ (k : ℕ). get_or caption k 0) {x = i * 2 + 0} {y = i * 2} (omega arith),
        ap (λ (k : ℕ). get_or caption k 0) {x = i * 2 + 1} {y = suc (i * 2)} (omega arith),
      )

  pub pairs_encoded : bytes (length pairs) (coded GF16 0 (symbol_in pairs)) ≡ encoded 0 caption
  unfolding encoded
  pairs_encoded =
      row_same _ (coded GF16 0 (symbol 2 caption)) (length pairs) (coded_below 0 (length pairs) _ _ pairs_symbol)
      ∙ ap (λ (m : ℕ). bytes m (coded GF16 0 (symbol 2 caption))) pairs_count

  pub pairs_decoded : bytes (length pairs) (plain GF16 0 (symbol_in pairs)) ≡ decoded 0 caption
  unfolding decoded
  pairs_decoded =
      row_same _ (plain GF16 0 (symbol 2 caption)) (length pairs) (plain_below 0 (length pairs) _ _ pairs_symbol)
      ∙ ap (λ (m : ℕ). bytes m (plain GF16 0 (symbol 2 caption))) pairs_count

  -- where a pattern has its place, it reads no pair past the end
  inside_place : (l i : ℕ) → i < places (length pairs) l → i + l ≤ length pairs
  inside_place l i inside = search (arith, inside)

  pub pairs_found : (pattern : List ℕ) → found_in pairs pattern ≡ found 0 caption pattern
  unfolding found_in found hit
  pairs_found pattern =
      let l : ℕ = symbols 2 pattern in
      named_same _ _ (places (length pairs) l)
      (λ i inside.
      ap₂ (λ (x y : ℕ). eqb (x ⊕ y) (product GF16 (component GF16 l (symbol 2 pattern) 1) (weight GF16 0 i)))
      (previous_below (length pairs) _ _ pairs_symbol (i + l) (inside_place l i inside))
      (previous_below (length pairs) _ _ pairs_symbol i (omega (arith, inside_place l i inside))))
      ∙ ap (λ (m : ℕ). named (hit GF16 0 (symbol 2 caption) l (symbol 2 pattern)) (places m l)) pairs_count

-- ---- a field cut up: what is left of it, the next part, and what is left then

pub record Cut (all rest part left : List (List ℕ)) : Type 0 where
  pub behind : rest ≡ drop (length all - length rest) all
  pub parts : rest ≡ part ++ left
  pub size : length part ≡ min 16 (length rest)

module _ {all rest part left : List (List ℕ)} (c : Cut all rest part left) where
  cut_lengths : (length rest ≡ length part + length left) × (length rest ≤ length all)
  cut_lengths = (ap length c.parts ∙ length-append part left, omega (arith, ap length c.behind, length-drop (length all - length rest) all))

  pub cut_gone : length all - length left ≡ length all - length rest + length part
  cut_gone = omega (arith, cut_lengths.0, cut_lengths.1)

  pub cut_behind : left ≡ drop (length all - length left) all
  cut_behind =
      sym (drop-append_seam part left)
      ∙ ap (drop (length part)) (sym c.parts ∙ c.behind)
      ∙ drop-drop (length part) (length all - length rest) all
      ∙ ap (λ (k : ℕ). drop k all) (omega (arith, cut_gone))

  pub cut_symbol : (l : ℕ) → l < length part → symbol_in part l ≡ symbol_in all (length all - length rest + l)
  cut_symbol l below =
      ap (from_le_bytes w16)
      (sym (get_or_append_left part left [] l below)
      ∙ ap (λ (xs : List (List ℕ)). get_or xs l []) (sym c.parts ∙ c.behind)
      ∙ get_or-drop (length all - length rest) all l [])
