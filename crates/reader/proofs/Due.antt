-- One field: that it is due at a place says what stands there, and the other way round; and where a reader is when it has taken it off.
-- Assumes nothing.
use mathlib.Core.Path.{◌≡◌, refl, sym, ap, ◌∙◌}
use mathlib.Core.Bool.{Bool, true, false, false≢true}
use mathlib.Core.List.{List}
use Prim.Native.Nat.{ℕ, ◌+◌, ◌≤◌}
use native.Mathlib.Omega.{arith}
use lib.Dec.{leb, eqb}
use lib.ListN.{length, get_or}
use borrow.Author.Tests.{eqb-true, leb-true, eq-eqb, le-leb}
use Rattle.signature.specs.Objects.{low_first}
use Rattle.std.specs.Prelude.{Some}
use Rattle.reader.specs.Fields.{Rule, long, none, rule, under_rule, field_at, is_due, behind}

-- tag and length are those due, and the value is all there
pub record Due (tag size : ℕ) (bytes : List ℕ) (at : ℕ) : Type 0 where
  pub is : get_or bytes at 0 ≡ tag
  pub due : low_first 2 bytes (at + 1) ≡ size
  pub inside : at + 3 + size ≤ length bytes

same_size : (a b : ℕ) → long a ≡ long b → a ≡ b
same_size a b p = cc

module _ (n tag size : ℕ) (bytes : List ℕ) (at : ℕ) (r : rule n tag ≡ long size) where
  pub is_due_lem : is_due tag (field_at n bytes at) ≡ true → Due tag size bytes at
  unfolding field_at
  is_due_lem e = three (leb (at + 3) (length bytes)) refl
    where
      formed : (s : ℕ) → rule n (get_or bytes at 0) ≡ long s → low_first 2 bytes (at + 1) ≡ s → at + 3 + s ≤ length bytes → get_or bytes at 0 ≡ tag → Due tag size bytes at
      formed s q same inside is =
          let sizes : s ≡ size = same_size s size (sym q ∙ ap (rule n) is ∙ r) in
          record { is = is; due = same ∙ sizes; inside = omega arith }

      whole : (s : ℕ) → rule n (get_or bytes at 0) ≡ long s → low_first 2 bytes (at + 1) ≡ s → (b : Bool) → leb (at + 3 + s) (length bytes) ≡ b
          → is_due tag (under_rule (long s) bytes at) ≡ true → Due tag size bytes at
      whole s q same true l h =
          formed s q same (leb-true _ _ l) (eqb-true _ _ (simp (l, eq-eqb (low_first 2 bytes (at + 1)) s same) at h))
      whole s q same false l h = absurd (false≢true (simp (l, eq-eqb (low_first 2 bytes (at + 1)) s same) at h))

      measured : (s : ℕ) → rule n (get_or bytes at 0) ≡ long s → (b : Bool) → eqb (low_first 2 bytes (at + 1)) s ≡ b
          → is_due tag (under_rule (long s) bytes at) ≡ true → Due tag size bytes at
      measured s q true l h = whole s q (eqb-true _ _ l) (leb (at + 3 + s) (length bytes)) refl h
      measured s q false l h = absurd (false≢true (simp l at h))

      ruled : (x : Rule) → rule n (get_or bytes at 0) ≡ x → is_due tag (under_rule x bytes at) ≡ true → Due tag size bytes at
      ruled none q h = absurd (false≢true h)
      ruled (long s) q h = measured s q (eqb (low_first 2 bytes (at + 1)) s) refl h

      three : (b : Bool) → leb (at + 3) (length bytes) ≡ b → Due tag size bytes at
      three true l = ruled (rule n (get_or bytes at 0)) refl (simp l at e)
      three false l = absurd (false≢true (simp l at e))

  due_formed : Due tag size bytes at → field_at n bytes at ≡ Some (record { tag = tag; value = at + 3; next = at + 3 + size })
  unfolding field_at
  due_formed d =
      let there : at + 3 ≤ length bytes = omega arith in
      simp (le-leb (at + 3) (length bytes) there, d.is, r, eq-eqb (low_first 2 bytes (at + 1)) size d.due, le-leb (at + 3 + size) (length bytes) d.inside)

  pub due_is : Due tag size bytes at → is_due tag (field_at n bytes at) ≡ true
  due_is d = ap (is_due tag) (due_formed d) ∙ eq-eqb tag tag refl

  pub behind_due : Due tag size bytes at → behind at (field_at n bytes at) ≡ at + 3 + size
  behind_due d = ap (behind at) (due_formed d)
