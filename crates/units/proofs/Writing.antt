-- The laws of a part written over: its length, what stands before it, in it and after it, and a part written right after a part.
-- Assumes nothing.
use mathlib.Core.Path.{◌≡◌, refl, sym, ap, ap₂, ◌∙◌}
use mathlib.Core.Logic.{◌≢◌}
use mathlib.Core.List.{List, [], ◌∷◌, ◌++◌, append_assoc, append-nil}
use Prim.Native.Nat.{ℕ, suc, ◌+◌, ◌-◌, ◌≤◌, ◌<◌}
use native.Mathlib.Nat.{add-zero, add-suc, suc-add, le_refl}
use native.Mathlib.Numerals.{add-one}
use native.Mathlib.Omega.{arith}
use lib.ListN.{length, get_or, take, drop, set, length-append, length-set, drop_of_length-le, get_or-append}
use lib.Seq.{sets, sets-eq, length-sets, length-take-le, set_comm, take_at, drop_at, get_or-take, get_or-drop}
use borrow.Author.Tests.{le-leb, lt-leb}
use Rattle.units.specs.Writing.{written, part_put, Put, put_of, put}

-- element by element, from the first of the new part on
pub written_sets : (old : List ℕ) (at : ℕ) (new : List ℕ) → at + length new ≤ length old → written old at new ≡ sets old at new
unfolding written
written_sets old at new fits = sym (sets-eq new old at fits ∙ append_assoc (take at old) new (drop (at + length new) old))

pub written_length : (old : List ℕ) (at : ℕ) (new : List ℕ) → at + length new ≤ length old → length (written old at new) ≡ length old
written_length old at new fits = ap length (written_sets old at new fits) ∙ length-sets old at new

pub written_none : (old : List ℕ) (at : ℕ) → at ≤ length old → written old at [] ≡ old
written_none old at fits = written_sets old at [] (omega (arith, add-zero at))

pub written_one : (old : List ℕ) (at x : ℕ) → at < length old → written old at (x ∷ []) ≡ set old at x
written_one old at x fits = written_sets old at (x ∷ []) (omega arith)

-- the first element, then the others
pub written_cons : (old : List ℕ) (at x : ℕ) (xs : List ℕ) → at + 1 + length xs ≤ length old → written (set old at x) (at + 1) xs ≡ written old at (x ∷ xs)
written_cons old at x xs fits =
    written_sets (set old at x) (at + 1) xs (omega (arith, length-set old at x))
    ∙ ap (λ (k : ℕ). sets (set old at x) k xs) (add-one at)
    ∙ sym (written_sets old at (x ∷ xs) (omega arith))

sets_append : (xs ys old : List ℕ) (at : ℕ) → sets (sets old at xs) (at + length xs) ys ≡ sets old at (xs ++ ys)
sets_append [] ys old at = ap (λ (k : ℕ). sets old k ys) (add-zero at)
sets_append (x ∷ xs) ys old at =
    ap (λ (k : ℕ). sets (sets (set old at x) (suc at) xs) k ys) (add-suc at (length xs) ∙ sym (suc-add at (length xs)))
    ∙ sets_append xs ys (set old at x) (suc at)

pub written_append : (old : List ℕ) (at : ℕ) (xs ys : List ℕ) → at + (length xs + length ys) ≤ length old
    → written (written old at xs) (at + length xs) ys ≡ written old at (xs ++ ys)
written_append old at xs ys fits =
    let first : at + length xs ≤ length old = omega arith in
    let second : at + length xs + length ys ≤ length (sets old at xs) = omega (arith, length-sets old at xs) in
    let both : at + length (xs ++ ys) ≤ length old = omega (arith, length-append xs ys) in
    ap (λ (l : List ℕ). written l (at + length xs) ys) (written_sets old at xs first)
    ∙ written_sets (sets old at xs) (at + length xs) ys second
    ∙ sets_append xs ys old at
    ∙ sym (written_sets old at (xs ++ ys) both)

sets_before : (xs old : List ℕ) (at k x : ℕ) → at + length xs ≤ k → sets (set old k x) at xs ≡ set (sets old at xs) k x
sets_before [] old at k x far = refl
sets_before (y ∷ ys) old at k x far =
    let apart : k ≢ at = omega arith in
    ap (λ (l : List ℕ). sets l (suc at) ys) (set_comm old k at x y apart) ∙ sets_before ys (set old at y) (suc at) k x (omega arith)

-- the last element, and then those before it
pub written_last : (old : List ℕ) (at : ℕ) (xs : List ℕ) (x : ℕ) → at + length xs < length old
    → written (set old (at + length xs) x) at xs ≡ written old at (xs ++ (x ∷ []))
written_last old at xs x fits =
    let room : at + length xs ≤ length (set old (at + length xs) x) = omega (arith, length-set old (at + length xs) x) in
    let long : at + length (xs ++ (x ∷ [])) ≤ length old = omega (arith, length-append xs (x ∷ [])) in
    written_sets (set old (at + length xs) x) at xs room
    ∙ sets_before xs old at (at + length xs) x (le_refl (at + length xs))
    ∙ sets_append xs (x ∷ []) old at
    ∙ sym (written_sets old at (xs ++ (x ∷ [])) long)

sets_apart : (ys xs old : List ℕ) (at k : ℕ) → at + length xs ≤ k → sets (sets old k ys) at xs ≡ sets (sets old at xs) k ys
sets_apart [] xs old at k far = refl
sets_apart (y ∷ ys) xs old at k far =
    sets_apart ys xs (set old k y) at (suc k) (omega arith) ∙ ap (λ (l : List ℕ). sets l (suc k) ys) (sets_before xs old at k y far)

-- the later part, and then the one before it
pub written_behind : (old : List ℕ) (at : ℕ) (xs ys : List ℕ) → at + (length xs + length ys) ≤ length old
    → written (written old (at + length xs) ys) at xs ≡ written old at (xs ++ ys)
written_behind old at xs ys fits =
    let later : at + length xs + length ys ≤ length old = omega arith in
    let room : at + length xs ≤ length (sets old (at + length xs) ys) = omega (arith, length-sets old (at + length xs) ys) in
    let long : at + length (xs ++ ys) ≤ length old = omega (arith, length-append xs ys) in
    ap (λ (l : List ℕ). written l at xs) (written_sets old (at + length xs) ys later)
    ∙ written_sets (sets old (at + length xs) ys) at xs room
    ∙ sets_apart ys xs old at (at + length xs) (le_refl (at + length xs))
    ∙ sets_append xs ys old at
    ∙ sym (written_sets old at (xs ++ ys) long)

-- one part, and then another right after it
pub put_then : (old one two : List ℕ) (at next end : ℕ) (xs ys : List ℕ) → at + (length xs + length ys) ≤ length old
    → put_of one next ≡ put old at xs → put_of two end ≡ put one next ys → put_of two end ≡ put old at (xs ++ ys)
put_then old one two at next end xs ys fits first second =
    let far : at + length xs + length ys ≡ at + length (xs ++ ys) = omega (arith, length-append xs ys) in
    second
    ∙ ap (λ (p : Put). put p.buffer p.next ys) first
    ∙ ap₂ put_of (written_append old at xs ys fits) far

module _ (old : List ℕ) (at : ℕ) (new : List ℕ) (fits : at + length new ≤ length old) where
  front : length (take at old) ≡ at
  front = length-take-le at old (omega arith)

  pub written_before : take at (written old at new) ≡ take at old
  unfolding written
  written_before = take_at (take at old) (new ++ drop (at + length new) old) at front

  pub written_inside : take (length new) (drop at (written old at new)) ≡ new
  unfolding written
  written_inside =
      ap (take (length new)) (drop_at (take at old) (new ++ drop (at + length new) old) at front)
      ∙ take_at new (drop (at + length new) old) (length new) refl

  pub written_after : drop (at + length new) (written old at new) ≡ drop (at + length new) old
  unfolding written
  written_after =
      ap (drop (at + length new)) (sym (append_assoc (take at old) new (drop (at + length new) old)))
      ∙ drop_at (take at old ++ new) (drop (at + length new) old) (at + length new) (length-append (take at old) new ∙ ap (λ (k : ℕ). k + length new) front)

  -- element by element
  pub written_below : (k : ℕ) → k < at → get_or (written old at new) k 0 ≡ get_or old k 0
  unfolding written
  written_below k below =
      get_or-append (take at old) (new ++ drop (at + length new) old) 0 k (omega (arith, front)) ∙ get_or-take at old k 0 below

  pub written_at : (k : ℕ) → k < length new → get_or (written old at new) (at + k) 0 ≡ get_or new k 0
  written_at k inside =
      sym (get_or-drop at (written old at new) k 0)
      ∙ sym (get_or-take (length new) (drop at (written old at new)) k 0 inside)
      ∙ ap (λ (l : List ℕ). get_or l k 0) written_inside

  pub written_above : (k : ℕ) → at + length new ≤ k → get_or (written old at new) k 0 ≡ get_or old k 0
  written_above k above =
      let end : ℕ = at + length new in
      let place : end + (k - end) ≡ k = omega arith in
      ap (λ (i : ℕ). get_or (written old at new) i 0) (sym place)
      ∙ sym (get_or-drop end (written old at new) (k - end) 0)
      ∙ ap (λ (l : List ℕ). get_or l (k - end) 0) written_after
      ∙ get_or-drop end old (k - end) 0
      ∙ ap (λ (i : ℕ). get_or old i 0) place

-- a part written over one of its length
pub written_over : (front part back : List ℕ) (at : ℕ) (new : List ℕ) → length front ≡ at → length part ≡ length new
    → written (front ++ (part ++ back)) at new ≡ front ++ (new ++ back)
unfolding written
written_over front part back at new here long =
    let end : length (front ++ part) ≡ at + length new = omega (arith, length-append front part) in
    ap₂ (λ (p q : List ℕ). p ++ (new ++ q)) (take_at front (part ++ back) at here)
    (ap (drop (at + length new)) (sym (append_assoc front part back)) ∙ drop_at (front ++ part) back (at + length new) end)

module _ (part old : List ℕ) (at : ℕ) where
  pub part_put_lem : at + length part ≤ length old → part_put part old at ≡ written old at part
  unfolding part_put
  part_put_lem fits = simp (le-leb _ _ fits)

  pub part_not_put : length old < at + length part → part_put part old at ≡ old
  unfolding part_put
  part_not_put short = simp (lt-leb _ _ short)

-- all of a list
pub written_whole : (old new : List ℕ) → length new ≡ length old → written old 0 new ≡ new
unfolding written
written_whole old new long =
    let past : length old ≤ 0 + length new = omega arith in
    ap (λ (l : List ℕ). new ++ l) (drop_of_length-le old past) ∙ append-nil new

-- a part that finds no room
pub part_passed : (part old : List ℕ) (at : ℕ) → length old < at + length part → old ≡ part_put part old at
part_passed part old at short = sym (part_not_put part old at short)
