-- One page written over in a bucket: that page is the new one and every other is as it was; and a bucket is what its pages are.
-- Assumes nothing.
use mathlib.Core.Path.{◌≡◌, sym, ap, ap₂, ◌∙◌}
use mathlib.Core.Logic.{dite}
use mathlib.Core.List.{List, ◌++◌}
use Prim.Native.Nat.{ℕ, zero, suc, ◌+◌, ◌-◌, ◌*◌, ◌≤◌, ◌<◌, min}
use native.Mathlib.Nat.{suc-mul, zero-mul, mul-le-mul_right, le_refl}
use native.Mathlib.Decide.{dec_lt}
use native.Mathlib.Omega.{arith}
use lib.ListN.{length, take, drop, length-take, length-drop}
use lib.Seq.{take-add, take_all, take-take, drop_at, drop-drop, length-take-le}
use Rattle.units.specs.Counts.{pages_in}
use Rattle.units.specs.Writing.{written}
use Rattle.units.proofs.Pieces.{pieces_reach}
use Rattle.units.proofs.Writing.{written_length, written_before, written_inside, written_after}
use Rattle.map.specs.Buckets.{page_at}

pub page_length : (page : ℕ) (bucket : List ℕ) (k : ℕ) → length (page_at page bucket k) ≡ min page (length bucket - k * page)
unfolding page_at
page_length page bucket k = length-take page (drop (k * page) bucket) ∙ ap (min page) (length-drop (k * page) bucket)

-- a part of a list is one of its beginning
part_of : (size at : ℕ) (l : List ℕ) → at ≤ length l → take size (drop at l) ≡ drop at (take (at + size) l)
part_of size at l inside =
    sym (ap (drop at) (take-add at size l) ∙ drop_at (take at l) (take size (drop at l)) at (length-take-le at l inside))

module _ (page : ℕ) (old new : List ℕ) (k : ℕ) (inside : k * page ≤ length old) (long : length new ≡ min page (length old - k * page)) where
  fits : k * page + length new ≤ length old
  fits = omega arith

  after : List ℕ
  after = written old (k * page) new

  after_length : length after ≡ length old
  unfolding after
  after_length = written_length old (k * page) new fits

  pub page_here : page_at page (written old (k * page) new) k ≡ new
  unfolding page_at after
  page_here =
      let rest : List ℕ = drop (k * page) after in
      let left : length rest ≡ length old - k * page = length-drop (k * page) after ∙ ap (λ (n : ℕ). n - k * page) after_length in
      dite (dec_lt page (length rest))
      (λ (more : page < length rest).
      let whole : page ≡ length new = omega arith in
      ap (λ (n : ℕ). take n rest) whole ∙ written_inside old (k * page) new fits)
      (λ less.
      let all : length rest ≤ page = omega arith in
      let part : length rest ≤ length new = omega arith in
      take_all page rest all ∙ sym (take_all (length new) rest part) ∙ written_inside old (k * page) new fits)

  earlier : (i : ℕ) → i < k → page_at page after i ≡ page_at page old i
  unfolding page_at after
  earlier i before =
      let more : suc i ≤ k = omega arith in
      let ends : suc i * page ≤ k * page = mul-le-mul_right page more in
      let up : i * page + page ≤ k * page = omega (arith, suc-mul i page) in
      let here : i * page ≤ length old = omega arith in
      let there : i * page ≤ length after = omega (arith, after_length) in
      part_of page (i * page) after there
      ∙ ap (drop (i * page))
      (sym (take-take (i * page + page) (k * page) after up)
      ∙ ap (take (i * page + page)) (written_before old (k * page) new fits)
      ∙ take-take (i * page + page) (k * page) old up)
      ∙ sym (part_of page (i * page) old here)

  later : (i : ℕ) → k < i → page_at page after i ≡ page_at page old i
  unfolding page_at after
  later i past =
      let more : suc k ≤ i = omega arith in
      let begins : suc k * page ≤ i * page = mul-le-mul_right page more in
      let end : ℕ = k * page + length new in
      let up : end + (i * page - end) ≡ i * page = omega (arith, suc-mul k page) in
      ap (take page)
      (ap (λ (n : ℕ). drop n after) (sym up)
      ∙ sym (drop-drop (i * page - end) end after)
      ∙ ap (drop (i * page - end)) (written_after old (k * page) new fits)
      ∙ drop-drop (i * page - end) end old
      ∙ ap (λ (n : ℕ). drop n old) up)

  pub page_else : (i : ℕ) → (i ≡ k → ⊥) → page_at page (written old (k * page) new) i ≡ page_at page old i
  unfolding after
  page_else i other = dite (dec_lt i k) (earlier i) (λ up. later i (omega arith))

-- buckets of one length with the same pages are the same
module _ (page : ℕ) (some : 0 < page) (one other : List ℕ) (lengths : length one ≡ length other)
    (pages : (k : ℕ) → k < pages_in page (length one) → page_at page one k ≡ page_at page other k) where
  up_to : (m : ℕ) → m ≤ pages_in page (length one) → take (m * page) one ≡ take (m * page) other
  unfolding page_at
  up_to zero most = ap (λ (n : ℕ). take n one) (zero-mul page) ∙ sym (ap (λ (n : ℕ). take n other) (zero-mul page))
  up_to (suc m) most =
      ap (λ (n : ℕ). take n one) (suc-mul m page)
      ∙ take-add (m * page) page one
      ∙ ap₂ ◌++◌ (up_to m (omega arith)) (pages m (omega arith))
      ∙ sym (take-add (m * page) page other)
      ∙ ap (λ (n : ℕ). take n other) (sym (suc-mul m page))

  pub pages_whole : one ≡ other
  pages_whole =
      let all : length one ≤ pages_in page (length one) * page = pieces_reach page (length one) some in
      let both : length other ≤ pages_in page (length one) * page = omega arith in
      sym (take_all (pages_in page (length one) * page) one all)
      ∙ up_to (pages_in page (length one)) (le_refl (pages_in page (length one)))
      ∙ take_all (pages_in page (length one) * page) other both
