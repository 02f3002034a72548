-- What the search of the definition finds: a change that fits where there is one. Where no two fit, it is that one; and it is the one that the first
-- two components name.
-- Assumes nothing.
use mathlib.Core.Path.{◌≡◌, refl, sym, ap, ap₂, ◌∙◌}
use mathlib.Core.Bool.{Bool, true, false, cond}
use mathlib.Core.List.{List}
use Prim.Native.Nat.{ℕ, ◌+◌, ◌-◌, ◌%◌, ◌≤◌, ◌<◌}
use native.Mathlib.Omega.{arith}
use lib.Dec.{eqb, ltb}
use borrow.Author.Tests.{ltb-true, lt-ltb}
use Rattle.units.specs.Naming.{first_named}
use Rattle.units.proofs.First.{first_before, first_named_lem}
use Rattle.units.proofs.Refusing.{not_both}
use Rattle.field.specs.Field.{GF16, ◌⊕◌, product, power, α}
use Rattle.signature.specs.Kinds.{Kind, wide}
use Rattle.signature.specs.Objects.{Octets, symbol, symbols}
use Rattle.signature.specs.Operations.{own}
use Rattle.signature.specs.Signatures.{handed}
use Rattle.signature.specs.declared.Signature.{Signature}
use Rattle.signature.proofs.EveryKind.{wide_sound}
use Rattle.backup.specs.Backups.{same}
use Rattle.repair.specs.Changes.{Tells, fits, values, value_at, position}
use Rattle.repair.specs.Repairs.{change_of, put}
use Rattle.repair.specs.declared.Repair.TheVariants.{Repaired, Beyond}
use Rattle.repair.proofs.Naming.{fitting, named, value_for, value_below, position_named, value_named}

module _ (K : Kind) (s : Signature) (page : List ℕ) where
  -- a position that was found has a value that fits
  pub found_fits : position K s page < symbols K.size page → fits K s page (position K s page) (value_at K s page (position K s page)) ≡ true
  unfolding position value_at
  found_fits below =
      let reach : position K s page < 0 + symbols K.size page = omega arith in
      let some : value_at K s page (position K s page) < values K =
      ltb-true _ _ (first_named_lem (λ i. ltb (value_at K s page i) (values K)) (symbols K.size page) 0 reach) in
      let within : value_at K s page (position K s page) < 0 + values K = omega arith in
      first_named_lem (fits K s page (position K s page)) (values K) 0 within

  -- and where a change fits, a position is found
  pub fits_found : (i x : ℕ) → i < symbols K.size page → x < values K → fits K s page i x ≡ true → position K s page < symbols K.size page
  unfolding position value_at
  fits_found i x inside small e =
      let within : x < 0 + values K = omega arith in
      let low : value_at K s page i ≤ x = first_before (fits K s page i) (values K) 0 x (omega arith) within e in
      let reach : i < 0 + symbols K.size page = omega arith in
      let some : value_at K s page i < values K = omega arith in
      let up : position K s page ≤ i = first_before (λ k. ltb (value_at K s page k) (values K)) (symbols K.size page) 0 i (omega arith) reach (lt-ltb _ _ some) in
      omega arith

module _ (s : Signature) (page : List ℕ) where
  pub put_found : (i x : ℕ) → i < symbols 2 page → x < values wide → fits wide s page i x ≡ true
      → ((k y : ℕ) → k < symbols 2 page → fits wide s page k y ≡ true → (k ≡ i) × (y ≡ x)) → put s page ≡ Repaired (change_of s.n page i x)
  unfolding put
  put_found i x inside small e only =
      let below : position wide s page < symbols 2 page = fits_found wide s page i x inside small e in
      let is : _ = only (position wide s page) (value_at wide s page (position wide s page)) below (found_fits wide s page below) in
      simp (lt-ltb _ _ below) (ap₂ (λ (k y : ℕ). Repaired (change_of s.n page k y)) is.0 is.1)

  pub put_none : ((k y : ℕ) → k < symbols 2 page → fits wide s page k y ≡ true → ⊥) → put s page ≡ Beyond
  unfolding put
  put_none none = at (ltb (position wide s page) (symbols 2 page)) refl
    where
      at : (b : Bool) → ltb (position wide s page) (symbols 2 page) ≡ b
          → cond b (Repaired (change_of s.n page (position wide s page) (value_at wide s page (position wide s page)))) Beyond ≡ Beyond
      at true e = absurd (none _ _ (ltb-true _ _ e) (found_fits wide s page (ltb-true _ _ e)))
      at false e = refl

-- ---- the position and the value that the first two components name

-- a page of another signature than s; the two differences d and e, and the first of its m positions, i, that makes the one of the other
pub record Sought (s mine : Signature) (page : List ℕ) (d e m i : ℕ) : Type 0 where
  pub octets : Octets page
  pub tells : Tells wide s page
  pub signed : mine ≡ own wide s.n page
  pub wrong : same mine s ≡ false
  pub first_off : d ≡ mine.s1 ⊕ s.s1
  pub second_off : e ≡ mine.s2 ⊕ s.s2
  pub count_is : m ≡ symbols 2 page
  pub place_is : i ≡ first_named (λ k. eqb (product GF16 d (power GF16 α k)) e) m 0

module _ {s mine : Signature} {page : List ℕ} {d e m i : ℕ} (q : Sought s mine page d e m i) where
  another : same (own wide s.n page) s ≡ false
  another = ap (λ (t : Signature). same t s) (sym q.signed) ∙ q.wrong

  one_off : d ≡ handed (own wide s.n page) 1 ⊕ s.s1
  one_off = q.first_off ∙ ap (λ (t : Signature). t.s1 ⊕ s.s1) q.signed

  two_off : e ≡ handed (own wide s.n page) 2 ⊕ s.s2
  two_off = q.second_off ∙ ap (λ (t : Signature). t.s2 ⊕ s.s2) q.signed

  -- a change that fits is at that position
  placed : (k y : ℕ) → k < symbols 2 page → fits wide s page k y ≡ true → k ≡ i
  placed k y inside e' =
      sym
      (q.place_is
      ∙ ap (λ (z : ℕ). first_named (λ k. eqb (product GF16 z (power GF16 α k)) e) m 0) one_off
      ∙ ap (λ (z : ℕ). first_named (λ k. eqb (product GF16 (handed (own wide s.n page) 1 ⊕ s.s1) (power GF16 α k)) z) m 0) two_off
      ∙ ap (λ (z : ℕ). first_named (named wide wide_sound s page q.octets q.tells another) z 0) q.count_is
      ∙ position_named wide wide_sound s page q.octets q.tells another k y inside (fitting wide s page k y e'))

  pub find_past : m ≤ i → put s page ≡ Beyond
  find_past past = put_none s page (λ k y inside e'. let at : k ≡ i = placed k y inside e' in omega (arith, q.count_is))

  module _ (x : ℕ) (x-is : x ≡ symbol 2 page i ⊕ product GF16 d (power GF16 α (65535 - i % 65535))) where
    only : (k y : ℕ) → k < symbols 2 page → fits wide s page k y ≡ true → (k ≡ i) × (y ≡ x)
    only k y inside e' =
        let at : k ≡ i = placed k y inside e' in (
          at,
          sym (value_named wide wide_sound s page q.octets q.tells another k y inside (fitting wide s page k y e'))
              ∙ ap (value_for wide wide_sound s page q.octets q.tells another) at
              ∙ ap (λ (z : ℕ). symbol 2 page i ⊕ product GF16 z (power GF16 α (65535 - i % 65535))) (sym one_off)
              ∙ sym x-is,
        )

    pub find_none : fits wide s page i x ≡ false → put s page ≡ Beyond
    find_none unfit =
        put_none s page
        (λ k y inside e'.
        let is : (k ≡ i) × (y ≡ x) = only k y inside e' in
        not_both (fits wide s page i x) (ap₂ (fits wide s page) (sym is.0) (sym is.1) ∙ e') unfit)

    pub find_one : i < m → fits wide s page i x ≡ true → put s page ≡ Repaired (change_of s.n page i x)
    find_one below fit =
        let inside : i < symbols 2 page = omega (arith, q.count_is) in
        put_found s page i x inside
        (value_below wide wide_sound s page q.octets q.tells another i x inside (fitting wide s page i x fit)) fit only
