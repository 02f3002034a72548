-- A change that gives a page another signature is named by the first two components: how they differ tells its position and its value. So there is
-- at most one.
-- Assumes nothing.
use mathlib.Core.Path.{◌≡◌, sym, ap, ap₂, ◌∙◌, subst}
use mathlib.Core.Logic.{◌≢◌}
use mathlib.Core.Bool.{Bool, true, false}
use mathlib.Core.List.{List}
use Prim.Native.Nat.{ℕ, ◌+◌, ◌-◌, ◌*◌, ◌%◌, ◌^◌, ◌≤◌, ◌<◌}
use native.Mathlib.Nat.{one-mul, le_trans, lt_of_lt_of_le}
use native.Mathlib.Omega.{arith}
use lib.Dec.{eqb}
use borrow.Author.Tests.{eqb-true, eq-eqb, le-leb}
use Rattle.units.specs.Naming.{first_named}
use Rattle.units.proofs.First.{first_before, first_named_lem}
use Rattle.units.proofs.Refusing.{not_both}
use Rattle.field.specs.Field.{Element, ◌⊕◌, product, power, α, order}
use Rattle.field.proofs.Orders.{powers_distinct, power_not_zero, power_undone, no_zero_divisors, cancel}
use Rattle.field.proofs.Powers.{α_element, α_power, power_add}
use Rattle.field.proofs.Products.{product_element, product_assoc, product_one}
use Rattle.field.proofs.Reducing.{zero_product}
use Rattle.field.proofs.Sums.{sum_zero, sum_undo, sum_lt}
use Rattle.field.proofs.Tests.{formed}
use Rattle.signature.specs.Kinds.{Kind}
use Rattle.signature.specs.Objects.{Octets, symbol, symbols}
use Rattle.signature.specs.Operations.{own}
use Rattle.signature.specs.Signatures.{signature, handed}
use Rattle.signature.specs.declared.Signature.{Signature}
use Rattle.signature.proofs.EveryKind.{Sound}
use Rattle.signature.proofs.Handing.{answered_same, handed_answered}
use Rattle.signature.proofs.Octets.{symbol_element}
use Rattle.map.proofs.Fields.{halves}
use Rattle.backup.specs.Backups.{same}
use Rattle.backup.proofs.Sameness.{same_is, is_same}
use Rattle.repair.specs.Changes.{Tells, changed, fits}
use Rattle.repair.proofs.Changed.{changed_small, changed_signature}

module _ (K : Kind) (s : Signature) (page : List ℕ) where
  -- what a change that fits does
  pub record Fitting (i x : ℕ) : Type 0 where
    pub holds : symbol K.size (changed K page i x) i ≡ x
    pub gives : own K s.n (changed K page i x) ≡ s

  pub fitting : (i x : ℕ) → fits K s page i x ≡ true → Fitting i x
  unfolding fits
  fitting i x e =
      let both : _ = halves (eqb (symbol K.size (changed K page i x) i) x) _ e in
      record { holds = eqb-true _ _ both.0; gives = same_is _ _ both.1 }

  pub not_held : (i x : ℕ) → eqb (symbol K.size (changed K page i x) i) x ≡ false → fits K s page i x ≡ false
  unfolding fits
  not_held i x e = simp e

  -- the page holds x there, and so its signature decides
  pub held : (i x : ℕ) → eqb (symbol K.size (changed K page i x) i) x ≡ true → fits K s page i x ≡ same (own K s.n (changed K page i x)) s
  unfolding fits
  held i x e = simp e

  pub fits_when : (i x : ℕ) → Fitting i x → fits K s page i x ≡ true
  unfolding fits
  fits_when i x f = simp (eq-eqb _ _ f.holds, is_same _ _ f.gives)

module _ (K : Kind) (sound : Sound K) (s : Signature) (page : List ℕ) (octets : Octets page) (tells : Tells K s page)
    (wrong : same (own K s.n page) s ≡ false) where
  -- by how much component j is off
  abbrev pub off : ℕ → ℕ
  off j = handed (own K s.n page) j ⊕ handed s j

  -- position k makes the second difference of the first
  abbrev pub named : ℕ → Bool
  named k = eqb (product K.field (off 1) (power K.field α k)) (off 2)

  -- and the value that the first one asks for there
  abbrev pub value_for : ℕ → ℕ
  value_for k = symbol K.size page k ⊕ product K.field (off 1) (power K.field α (order K.field - k % order K.field))

  a_power : (k : ℕ) → Element K.field (power K.field α k)
  a_power = α_power K.field (formed K.field sound.passes)

  handed_own : (object : List ℕ) (j : ℕ) → 0 < j → j ≤ s.n → handed (own K s.n object) j ≡ signature K.field K.size object j
  handed_own object j pos up =
      handed_answered s.n (signature K.field K.size object) j pos (le_trans up tells.four) ∙ simp (le-leb j s.n up)

  module _ (i x : ℕ) (inside : i < symbols K.size page) (f : Fitting K s page i x) where
    -- what the symbol differs by
    abbrev δ : ℕ
    δ = symbol K.size page i ⊕ x

    small : x < 256 ^ K.size
    small = changed_small K sound page i x inside octets f.holds

    pub value_below : x < 2 ^ K.field.width
    value_below = lt_of_lt_of_le small sound.fits

    δ_element : Element K.field δ
    δ_element = sum_lt K.field.width (symbol_element K.field K.size sound.fits page octets i) value_below

    moved : (j : ℕ) → signature K.field K.size (changed K page i x) j ≡ signature K.field K.size page j ⊕ product K.field δ (power K.field α (j * i))
    moved = changed_signature K sound page i x inside octets f.holds

    off_by : (j : ℕ) → 0 < j → j ≤ s.n → off j ≡ product K.field δ (power K.field α (j * i))
    off_by j pos up =
        ap₂ ◌⊕◌ (handed_own page j pos up) (ap (λ (t : Signature). handed t j) (sym f.gives) ∙ handed_own (changed K page i x) j pos up ∙ moved j)
        ∙ sum_undo (signature K.field K.size page j) _

    -- no difference would leave the page as it is, and its signature is another
    some_difference : δ ≢ 0
    some_difference none =
        let still : (j : ℕ) → signature K.field K.size (changed K page i x) j ≡ signature K.field K.size page j =
        λ j. moved j ∙ ap (λ (d : ℕ). signature K.field K.size page j ⊕ product K.field d (power K.field α (j * i))) none
        ∙ ap (λ (z : ℕ). signature K.field K.size page j ⊕ z) (zero_product K.field _) ∙ sum_zero _ in
        not_both (same (own K s.n page) s) (is_same _ _ (sym (answered_same s.n _ _ still) ∙ f.gives)) wrong

    first_off : off 1 ≡ product K.field δ (power K.field α i)
    first_off = off_by 1 (omega arith) (omega (arith, tells.some)) ∙ ap (λ (k : ℕ). product K.field δ (power K.field α k)) (one-mul i)

    first_not_zero : off 1 ≢ 0
    first_not_zero e =
        power_not_zero K.field sound.passes i
        (no_zero_divisors K.field sound.passes δ_element (a_power i) (sym first_off ∙ e) some_difference)

    first_element : Element K.field (off 1)
    first_element =
        subst (Element K.field) (sym first_off) (product_element K.field (formed K.field sound.passes) (power K.field α i) δ_element)

    -- the first difference, moved
    by_power : (k : ℕ) → product K.field (off 1) (power K.field α k) ≡ product K.field δ (product K.field (power K.field α i) (power K.field α k))
    by_power k =
        ap (λ (d : ℕ). product K.field d (power K.field α k)) first_off
        ∙ product_assoc K.field (formed K.field sound.passes) δ_element (a_power i) (a_power k)

    here : product K.field (off 1) (power K.field α i) ≡ off 2
    here =
        let twice : i + i ≡ 2 * i = omega arith in
        by_power i
        ∙ ap (product K.field δ)
        (sym (power_add K.field (formed K.field sound.passes) i i (α_element K.field (formed K.field sound.passes))) ∙ ap (power K.field α) twice)
        ∙ sym (off_by 2 (omega arith) tells.some)

    pub position_named : first_named named (symbols K.size page) 0 ≡ i
    position_named =
        let p : ℕ = first_named named (symbols K.size page) 0 in
        let reach : i < 0 + symbols K.size page = omega arith in
        let low : p ≤ i = first_before named (symbols K.size page) 0 i (omega arith) reach (eq-eqb _ _ here) in
        let there : product K.field (off 1) (power K.field α p) ≡ off 2 = eqb-true _ _ (first_named_lem named (symbols K.size page) 0 (omega arith)) in
        powers_distinct K.field sound.passes p i (omega (arith, tells.short, sound.short)) (omega (arith, tells.short, sound.short))
        (cancel K.field sound.passes first_element (a_power p) (a_power i) first_not_zero (there ∙ sym here))

    pub value_named : value_for i ≡ x
    value_named =
        ap (λ (d : ℕ). symbol K.size page i ⊕ d)
        (by_power (order K.field - i % order K.field)
        ∙ ap (product K.field δ) (power_undone K.field sound.passes i)
        ∙ product_one K.field (formed K.field sound.passes) δ_element)
        ∙ sum_undo (symbol K.size page i) x

  pub one_change : (i x k y : ℕ) → i < symbols K.size page → k < symbols K.size page → fits K s page i x ≡ true → fits K s page k y ≡ true → (i ≡ k) × (x ≡ y)
  one_change i x k y hi hk one other =
      let same_place : i ≡ k = sym (position_named i x hi (fitting K s page i x one)) ∙ position_named k y hk (fitting K s page k y other) in
      (same_place, sym (value_named i x hi (fitting K s page i x one)) ∙ ap value_for same_place ∙ value_named k y hk (fitting K s page k y other))
