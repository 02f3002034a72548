-- A page with one symbol changed is as long as it was, holds the same bytes outside that symbol, and is an edited page: each component of its
-- signature moves by the symbol's difference at that position.
-- Assumes nothing.
use mathlib.Core.Path.{◌≡◌, sym, ap, ap₂, ◌∙◌, subst}
use mathlib.Core.Logic.{◌≢◌, dite}
use mathlib.Core.List.{List, append-nil}
use Prim.Native.Nat.{ℕ, suc, ◌+◌, ◌-◌, ◌*◌, ◌/◌, ◌%◌, ◌^◌, ◌≤◌, ◌<◌, min}
use native.Mathlib.Nat.{one-mul, zero-mul, suc-mul, mul-le-mul_right}
use native.Mathlib.Decide.{dec_lt}
use native.Mathlib.Omega.{arith}
use lib.ListN.{length, get_or, take, set, length-take, get_or-eq_default}
use lib.Seq.{take_all, get_or-take}
use Rattle.units.specs.Writing.{written, part_put}
use Rattle.units.proofs.Pieces.{piece_begins}
use Rattle.units.proofs.Writing.{written_length, written_one, written_below, written_at, written_above}
use Rattle.field.specs.Field.{◌⊕◌, product, power, α}
use Rattle.field.proofs.Tests.{formed}
use Rattle.signature.specs.Edits.{Edited}
use Rattle.signature.specs.Kinds.{Kind, wide}
use Rattle.signature.specs.Objects.{Octets, low_first, low_bytes, symbol, symbols}
use Rattle.signature.specs.Signatures.{component, signature}
use Rattle.signature.proofs.Components.{component_one}
use Rattle.signature.proofs.Editing.{edit_law}
use Rattle.signature.proofs.EveryKind.{Sound, wide_sound}
use Rattle.signature.proofs.Numbers.{low_bytes_length, written_read, two_bytes, two_bytes_put, bytes_read}
use Rattle.signature.proofs.Octets.{low_first_lt, append_octets, take_octets, drop_octets, low_bytes_octets}
use Rattle.signature.proofs.Parts.{symbols_whole, symbol_same, byte_inside}
use Rattle.repair.specs.Changes.{changed}

module _ (K : Kind) (sound : Sound K) where
  -- one symbol is its own signature
  pub lone_symbol : (x j : ℕ) → x < 256 ^ K.size → signature K.field K.size (low_bytes K.size x) j ≡ x
  unfolding symbol
  lone_symbol x j small =
      let one : symbols K.size (low_bytes K.size x) ≡ 1 =
      symbols_whole K.size sound.some (low_bytes K.size x) 1 (low_bytes_length K.size x ∙ sym (one-mul K.size)) in
      let is : symbol K.size (low_bytes K.size x) 0 ≡ x =
      ap (low_first K.size (low_bytes K.size x)) (zero-mul K.size)
      ∙ ap (λ (l : List ℕ). low_first K.size l 0) (sym (append-nil (low_bytes K.size x)))
      ∙ written_read K.size x _ small in
      ap (λ (m : ℕ). component K.field m (symbol K.size (low_bytes K.size x)) j) one
      ∙ component_one K.field (formed K.field sound.passes) (symbol K.size (low_bytes K.size x)) j
      (subst (λ (y : ℕ). y < 2 ^ K.field.width) (sym is) (omega (arith, small, sound.fits)))
      ∙ is

  module _ (page : List ℕ) (i x : ℕ) (inside : i < symbols K.size page) where
    abbrev part : List ℕ
    part = take (length page - i * K.size) (low_bytes K.size x)

    starts : i * K.size < length page
    starts = piece_begins K.size (length page) sound.some i inside

    part_length : length part ≡ min (length page - i * K.size) K.size
    part_length = length-take (length page - i * K.size) (low_bytes K.size x) ∙ ap (min (length page - i * K.size)) (low_bytes_length K.size x)

    part_fits : i * K.size + length part ≤ length page
    part_fits = omega (arith, starts, part_length)

    pub changed_length : length (changed K page i x) ≡ length page
    unfolding changed
    changed_length = written_length page (i * K.size) part part_fits

    pub changed_octets : Octets page → Octets (changed K page i x)
    unfolding changed written
    changed_octets octets =
        append_octets (take (i * K.size) page) _ (take_octets (i * K.size) page octets)
        (append_octets part _ (take_octets (length page - i * K.size) (low_bytes K.size x) (low_bytes_octets K.size x))
        (drop_octets (i * K.size + length part) page octets))

    pub changed_below : (k : ℕ) → k < i * K.size → get_or (changed K page i x) k 0 ≡ get_or page k 0
    unfolding changed
    changed_below k below = written_below page (i * K.size) part part_fits k below

    pub changed_above : (k : ℕ) → i * K.size + K.size ≤ k → get_or (changed K page i x) k 0 ≡ get_or page k 0
    unfolding changed
    changed_above k above = written_above page (i * K.size) part part_fits k (omega (arith, part_length))

    -- the bytes of x that the page has room for
    pub changed_at : (k : ℕ) → k < K.size → i * K.size + k < length page → get_or (changed K page i x) (i * K.size + k) 0 ≡ get_or (low_bytes K.size x) k 0
    unfolding changed
    changed_at k small within =
        written_at page (i * K.size) part part_fits k (omega (arith, part_length))
        ∙ get_or-take (length page - i * K.size) (low_bytes K.size x) k 0 (omega arith)

    -- every other symbol stays
    pub changed_other : (k : ℕ) → k ≢ i → symbol K.size (changed K page i x) k ≡ symbol K.size page k
    changed_other k other =
        symbol_same K.size (changed K page i x) page k
        (λ b h.
        dite (dec_lt k i)
        (λ (before : k < i). changed_below (k * K.size + b) (byte_inside K.size i k b before h))
        (λ behind.
        let up : suc i * K.size ≤ k * K.size = mul-le-mul_right {m = suc i} {n = k} K.size (omega arith) in
        changed_above (k * K.size + b) (omega (arith, suc-mul i K.size))))

    -- where the symbol is then x
    module _ (octets : Octets page) (holds : symbol K.size (changed K page i x) i ≡ x) where
      pub changed_small : x < 256 ^ K.size
      unfolding symbol
      changed_small =
          subst (λ (y : ℕ). y < 256 ^ K.size) holds (low_first_lt K.size (changed K page i x) (i * K.size) (changed_octets octets))

      pub changed_edited : Edited K.size page (changed K page i x) i (low_bytes K.size (symbol K.size page i)) (low_bytes K.size x)
      unfolding symbol
      changed_edited =
          let old : List ℕ = low_bytes K.size (symbol K.size page i) in
          let one : symbols K.size old ≡ 1 =
          symbols_whole K.size sound.some old 1 (low_bytes_length K.size _ ∙ sym (one-mul K.size)) in
          let byte : (k : ℕ) → k < K.size → get_or (changed K page i x) (i * K.size + k) 0 ≡ get_or (low_bytes K.size x) k 0 =
          λ k h. bytes_read K.size (changed K page i x) (i * K.size) (changed_octets octets) k h ∙ ap (λ (y : ℕ). get_or (low_bytes K.size y) k 0) holds in
          record {
            same_length = changed_length;
            inside = omega (arith, one, inside);
            held = λ k h. bytes_read K.size page (i * K.size) octets k (subst (λ (n : ℕ). k < n) (low_bytes_length K.size _) h);
            holds = λ k h. byte k (subst (λ (n : ℕ). k < n) (low_bytes_length K.size x) h);
            kept_below = changed_below;
            kept_above = λ k h. changed_above k (subst (λ (n : ℕ). i * K.size + n ≤ k) (low_bytes_length K.size _) h);
          }

      pub changed_signature : (j : ℕ)
          → signature K.field K.size (changed K page i x) j
          ≡ signature K.field K.size page j ⊕ product K.field (symbol K.size page i ⊕ x) (power K.field α (j * i))
      unfolding symbol
      changed_signature j =
          let whole : (y : ℕ) → length (low_bytes K.size y) ≡ 1 * K.size = λ y. low_bytes_length K.size y ∙ sym (one-mul K.size) in
          edit_law K.field (formed K.field sound.passes) K.size sound.some sound.fits page (changed K page i x) i _ _ 1 changed_edited (whole _)
          (whole x) octets (changed_octets octets) j
          ∙ ap₂ (λ (y z : ℕ). signature K.field K.size page j ⊕ product K.field (y ⊕ z) (power K.field α (j * i)))
          (lone_symbol (symbol K.size page i) j (low_first_lt K.size page (i * K.size) octets)) (lone_symbol x j changed_small)

-- ---- symbols of two bytes

module _ (page : List ℕ) (i x : ℕ) (inside : i < symbols 2 page) where
  low : get_or (changed wide page i x) (i * 2) 0 ≡ x % 256
  unfolding low_bytes
  low =
      let within : i * 2 + 0 < length page = omega arith in
      let place : i * 2 ≡ i * 2 + 0 = omega arith in
      ap (λ (k : ℕ). get_or (changed wide page i x) k 0) place ∙ changed_at wide wide_sound page i x inside 0 (omega arith) within

  -- a page that has both bytes holds all of x
  pub both_bytes : 1 < length page - i * 2 → x < 65536 → symbol 2 (changed wide page i x) i ≡ x
  unfolding symbol low_bytes
  both_bytes room small =
      let high : get_or (changed wide page i x) (i * 2 + 1) 0 ≡ x / 256 % 256 = changed_at wide wide_sound page i x inside 1 (omega arith) (omega arith) in
      two_bytes (changed wide page i x) (i * 2) ∙ ap₂ (λ (a b : ℕ). a + b * 256) low high ∙ omega arith

  -- and one that has the low one only holds that, and a zero
  pub low_byte : length page - i * 2 ≤ 1 → symbol 2 (changed wide page i x) i ≡ x % 256
  unfolding symbol
  low_byte room =
      let past : length (changed wide page i x) ≤ i * 2 + 1 = omega (arith, changed_length wide wide_sound page i x inside) in
      two_bytes (changed wide page i x) (i * 2) ∙ ap₂ (λ (a b : ℕ). a + b * 256) low (get_or-eq_default (changed wide page i x) 0 past) ∙ omega arith

  -- written: both bytes, or the low one
  pub put_both : 1 < length page - i * 2 → part_put (low_bytes 2 x) page (i * 2) ≡ changed wide page i x
  unfolding changed
  put_both room =
      let all : length (low_bytes 2 x) ≤ length page - i * 2 = omega (arith, low_bytes_length 2 x) in
      two_bytes_put x page (i * 2) (omega arith) ∙ ap (written page (i * 2)) (sym (take_all (length page - i * 2) (low_bytes 2 x) all))

  pub put_low : length page - i * 2 ≤ 1 → set page (i * 2) (x % 256) ≡ changed wide page i x
  unfolding changed low_bytes
  put_low room =
      let one : 1 ≡ length page - i * 2 = omega arith in
      sym (written_one page (i * 2) (x % 256) (omega arith)) ∙ ap (λ (r : ℕ). written page (i * 2) (take r (low_bytes 2 x))) one
