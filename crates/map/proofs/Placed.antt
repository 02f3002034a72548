-- A tagged field in its place among other bytes: it is due there, and its value is read back.
-- Assumes nothing.
use mathlib.Core.Path.{◌≡◌, refl, sym, ap, ◌∙◌}
use mathlib.Core.List.{List, [], ◌∷◌, ◌++◌, append_assoc}
use Prim.Native.Nat.{ℕ, suc, ◌+◌, ◌<◌}
use native.Mathlib.Nat.{add-zero}
use native.Mathlib.Omega.{arith}
use lib.ListN.{length, get_or, length-append}
use lib.Seq.{get_or_at}
use Rattle.signature.specs.Objects.{low_first, low_bytes}
use Rattle.signature.proofs.Numbers.{low_first_after, low_bytes_length, written_read}
use Rattle.map.specs.Files.{tagged}
use Rattle.reader.proofs.Due.{Due}
use Rattle.map.proofs.Tagging.{tagged_length}

module _ (front : List ℕ) (at tag size : ℕ) (value rest : List ℕ) (before : length front ≡ at) (sized : length value ≡ size) where
  -- the number of i bytes further on in what follows a part
  behind : (part more : List ℕ) (n : ℕ) → length part ≡ n → (count i : ℕ) → low_first count ((front ++ part) ++ more) (at + n + i) ≡ low_first count more i
  behind part more n long count i =
      let place : length (front ++ part) ≡ at + n = omega (arith, length-append front part) in
      ap (λ (k : ℕ). low_first count ((front ++ part) ++ more) (k + i)) (sym place) ∙ low_first_after count (front ++ part) more i

  pub value_read : (count i : ℕ) → low_first count (front ++ (tagged tag value ++ rest)) (at + 3 + i) ≡ low_first count (value ++ rest) i
  unfolding tagged
  value_read count i =
      ap (λ (l : List ℕ). low_first count l (at + 3 + i))
      (ap (λ (l : List ℕ). front ++ (tag ∷ l)) (append_assoc (low_bytes 2 (length value)) value rest)
      ∙ sym (append_assoc front (tag ∷ low_bytes 2 (length value)) (value ++ rest)))
      ∙ behind (tag ∷ low_bytes 2 (length value)) (value ++ rest) 3 (ap suc (low_bytes_length 2 (length value))) count i

  length_read : size < 65536 → low_first 2 (front ++ (tagged tag value ++ rest)) (at + 1) ≡ size
  unfolding tagged
  length_read small =
      let fits : length value < 65536 = omega arith in
      ap (λ (l : List ℕ). low_first 2 l (at + 1))
      (ap (λ (l : List ℕ). front ++ (tag ∷ l)) (append_assoc (low_bytes 2 (length value)) value rest)
      ∙ sym (append_assoc front (tag ∷ []) (low_bytes 2 (length value) ++ (value ++ rest))))
      ∙ ap (low_first 2 ((front ++ (tag ∷ [])) ++ (low_bytes 2 (length value) ++ (value ++ rest)))) (sym (add-zero (at + 1)))
      ∙ behind (tag ∷ []) (low_bytes 2 (length value) ++ (value ++ rest)) 1 refl 2 0
      ∙ written_read 2 (length value) (value ++ rest) fits
      ∙ sized

  pub tag_read : get_or (front ++ (tagged tag value ++ rest)) at 0 ≡ tag
  unfolding tagged
  tag_read = get_or_at front tag ((low_bytes 2 (length value) ++ value) ++ rest) 0 at before

  pub placed_due : size < 65536 → Due tag size (front ++ (tagged tag value ++ rest)) at
  placed_due small =
      record {
        is = tag_read;
        due = length_read small;
        inside = omega (arith, length-append front (tagged tag value ++ rest), length-append (tagged tag value) rest, tagged_length tag value);
      }
