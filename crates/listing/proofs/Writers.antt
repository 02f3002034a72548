-- Texts put one after the other: the room that is left, and what is put together.
-- Assumes nothing.
use mathlib.Core.Path.{◌≡◌, refl, ap, ap₂, ◌∙◌, sym, subst}
use mathlib.Core.List.{List, ◌++◌, append-nil}
use Prim.Native.Nat.{ℕ, suc, ◌+◌, ◌-◌, ◌≤◌, ◌<◌}
use native.Mathlib.Nat.{add-zero}
use native.Mathlib.Numerals.{add-one}
use native.Mathlib.Omega.{arith}
use lib.ListN.{length, take, drop, length-append}
use lib.Seq.{drop-drop}
use borrow.Rule.Slice.PartMut.{put_mid}
use Rattle.units.specs.Writing.{written, Put, put_of, put}
use Rattle.units.specs.Runs.{end_to_end}
use Rattle.units.proofs.Writing.{written_length, written_none, put_then}
use Rattle.units.proofs.Runs.{run_split, run_at}
use Rattle.listing.specs.declared.Writer.{Writer}
use Rattle.listing.specs.Writers.{HasRoom, Puts}

-- a part of the output that was filled, and the place behind it
pub part_puts : (old : List ℕ) (at end : ℕ) (part new : List ℕ) → part ≡ new → end ≡ at + length new → put_of (put_mid at (end - at) old part) end ≡ put old at new
unfolding written
part_puts old at end part new is size =
    let behind : at + (end - at) ≡ at + length new = omega arith in
    ap₂ put_of (ap₂ (λ (l r : List ℕ). take at old ++ (l ++ r)) is (drop-drop (end - at) at old ∙ ap (λ (n : ℕ). drop n old) behind)) size

pub room_first : (xs ys : List ℕ) (w : Writer) → HasRoom (xs ++ ys) w → HasRoom xs w
room_first xs ys w room = omega (arith, length-append xs ys, room)

module _ (xs ys : List ℕ) (old mid : Writer) (room : HasRoom (xs ++ ys) old) (first : Puts xs old mid) where
  pub room_then : HasRoom ys mid
  room_then =
      let both : length (xs ++ ys) ≡ length xs + length ys = length-append xs ys in
      let fits : old.at + length xs ≤ length old.output.now = room_first xs ys old room in
      let next : mid.at ≡ old.at + length xs = ap (λ (p : Put). p.next) first.0 in
      let long : length mid.output.now ≡ length old.output.now =
      ap (λ (p : Put). length p.buffer) first.0 ∙ written_length old.output.now old.at xs fits in
      omega (arith, room)

  pub puts_then : (new : Writer) → Puts ys mid new → Puts (xs ++ ys) old new
  puts_then new second =
      let both : length (xs ++ ys) ≡ length xs + length ys = length-append xs ys in
      (put_then old.output.now mid.output.now new.output.now old.at mid.at new.at xs ys (omega (arith, room)) first.0 second.0, second.1 ∙ first.1)

-- three of them

module _ (xs ys zs : List ℕ) (old : Writer) (room : HasRoom (xs ++ ys ++ zs) old) where
  room_two : HasRoom (xs ++ ys) old
  room_two = room_first (xs ++ ys) zs old room

  pub room_three_first : HasRoom xs old
  room_three_first = room_first xs ys old room_two

  module _ (one : Writer) (first : Puts xs old one) where
    pub room_three_second : HasRoom ys one
    room_three_second = room_then xs ys old one room_two first

    module _ (two : Writer) (second : Puts ys one two) where
      both : Puts (xs ++ ys) old two
      both = puts_then xs ys old one room_two first two second

      pub room_three_third : HasRoom zs two
      room_three_third = room_then (xs ++ ys) zs old two room both

      pub puts_three : (new : Writer) → Puts zs two new → Puts (xs ++ ys ++ zs) old new
      puts_three = puts_then (xs ++ ys) zs old two room both

-- ---- lists end to end, the first k of m of which are put

pub run_last : (f : ℕ → List ℕ) (start k : ℕ) → end_to_end f start (suc k) ≡ end_to_end f start k ++ f (start + k)
unfolding end_to_end
run_last f start k =
    ap (end_to_end f start) (sym (add-one k)) ∙ run_split f k 1 start ∙ ap (λ (l : List ℕ). end_to_end f start k ++ l) (append-nil (f (start + k)))

pub run_start : (f : ℕ → List ℕ) (start m : ℕ) (w : Writer) → HasRoom (end_to_end f start m) w → Puts (end_to_end f start 0) w w
unfolding end_to_end
run_start f start m w room =
    let inside : w.at ≤ length w.output.now = omega (arith, room) in
    (ap₂ put_of (sym (written_none w.output.now w.at inside)) (sym (add-zero w.at)), refl)

module _ (f : ℕ → List ℕ) (start m k i : ℕ) (inside : k < m) (is : start + k ≡ i) (old mid : Writer)
    (room : HasRoom (end_to_end f start m) old) (first : Puts (end_to_end f start k) old mid) where
  room_to : HasRoom (end_to_end f start k ++ f i) old
  room_to =
      let before : List ℕ = end_to_end f start k in
      let here : List ℕ = f (start + k) in
      let behind : List ℕ = end_to_end f (suc (start + k)) (m - suc k) in
      omega (
        arith,
        ap (λ (j : ℕ). length (f j)) is,
        ap length (run_at f start k m inside),
        length-append before (here ++ behind),
        length-append here behind,
        length-append before (f i),
        room,
      )

  -- the next one has room, and with it one more is put
  pub run_room : HasRoom (f i) mid
  run_room = room_then (end_to_end f start k) (f i) old mid room_to first

  pub run_puts : (new : Writer) → Puts (f i) mid new → (next : ℕ) → suc k ≡ next → Puts (end_to_end f start next) old new
  run_puts new put next up =
      let more : end_to_end f start k ++ f i ≡ end_to_end f start next =
      ap (λ (j : ℕ). end_to_end f start k ++ f j) (sym is) ∙ sym (run_last f start k) ∙ ap (end_to_end f start) up in
      subst (λ (l : List ℕ). Puts l old new) more (puts_then (end_to_end f start k) (f i) old mid room_to first new put)
