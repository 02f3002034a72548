-- Two signatures that are the same component by component are one signature; and what it takes to say that a page agrees with its entry.
-- Assumes nothing.
use mathlib.Core.Path.{◌≡◌, refl, sym, ap, ap₂, ◌∙◌}
use mathlib.Core.Bool.{Bool, true, false, ◌&&◌}
use Rattle.std.specs.Prelude.{nat_eq}
use mathlib.Core.List.{List}
use Prim.Native.Nat.{ℕ}
use lib.Dec.{eqb}
use borrow.Author.Tests.{eqb-true, eq-eqb}
use Rattle.signature.specs.Kinds.{wide}
use Rattle.signature.specs.Operations.{own}
use Rattle.signature.specs.declared.Signature.{Signature}
use Rattle.map.specs.Buckets.{page_at}
use Rattle.map.specs.declared.Entry.{Entry}
use Rattle.map.specs.declared.Header.{Header}
use Rattle.map.proofs.Fields.{halves}
use Rattle.backup.specs.Backups.{same, agrees}

pub four_of_five : (a b c d e : Bool) → a ≡ true → b ≡ true → c ≡ true → d ≡ true → (a && b && c && d && e) ≡ e
four_of_five a b c d e p q r s = simp (p, q, r, s)

regrouped : (a b c d e : Bool) → (a && (b && (c && (d && e)))) ≡ (a && b && c && d && e)
regrouped false b c d e = refl
regrouped true false c d e = refl
regrouped true true false d e = refl
regrouped true true true false e = refl
regrouped true true true true e = refl

-- as the derived comparison of two signatures says it
pub same_by_parts : (a b : Signature)
    → (nat_eq a.n b.n && (nat_eq a.s1 b.s1 && (nat_eq a.s2 b.s2 && (nat_eq a.s3 b.s3 && nat_eq a.s4 b.s4)))) ≡ same a b
unfolding same
same_by_parts a b = regrouped (eqb a.n b.n) (eqb a.s1 b.s1) (eqb a.s2 b.s2) (eqb a.s3 b.s3) (eqb a.s4 b.s4)

pub same_is : (a b : Signature) → same a b ≡ true → a ≡ b
unfolding same
same_is a b e =
    let five : _ = halves (eqb a.n b.n && eqb a.s1 b.s1 && eqb a.s2 b.s2 && eqb a.s3 b.s3) _ e in
    let four : _ = halves (eqb a.n b.n && eqb a.s1 b.s1 && eqb a.s2 b.s2) _ five.0 in
    let three : _ = halves (eqb a.n b.n && eqb a.s1 b.s1) _ four.0 in
    let two : _ = halves (eqb a.n b.n) _ three.0 in
    let n : a.n ≡ b.n = eqb-true _ _ two.0 in
    let s1 : a.s1 ≡ b.s1 = eqb-true _ _ two.1 in
    let s2 : a.s2 ≡ b.s2 = eqb-true _ _ three.1 in
    let s3 : a.s3 ≡ b.s3 = eqb-true _ _ four.1 in
    let s4 : a.s4 ≡ b.s4 = eqb-true _ _ five.1 in
    λ i. record { n = n i; s1 = s1 i; s2 = s2 i; s3 = s3 i; s4 = s4 i }

pub is_same : (a b : Signature) → a ≡ b → same a b ≡ true
unfolding same
is_same a b e =
    ap (same a) (sym e)
    ∙ four_of_five _ _ _ _ _ (eq-eqb a.n a.n refl) (eq-eqb a.s1 a.s1 refl) (eq-eqb a.s2 a.s2 refl) (eq-eqb a.s3 a.s3 refl)
    ∙ eq-eqb a.s4 a.s4 refl

-- a page's test, from what was found of the page and of its entry
pub agrees_by : (h : Header) (entry : ℕ → Entry) (bucket : List ℕ) (k : ℕ) (page : List ℕ) (s : Signature) (e : Entry) (r : Bool)
    → page ≡ page_at h.page.count bucket k → s ≡ own wide h.n page → e ≡ entry k → r ≡ same s e.signature → agrees h entry bucket k ≡ r
unfolding agrees
agrees_by h entry bucket k page s e r cut signed found told =
    ap₂ (λ (a : Signature) (b : Entry). same a b.signature) (ap (own wide h.n) (sym cut) ∙ sym signed) (sym found) ∙ sym told

module _ (h : Header) (entry : ℕ → Entry) (bucket : List ℕ) (k : ℕ) where
  pub agrees_is : agrees h entry bucket k ≡ true → own wide h.n (page_at h.page.count bucket k) ≡ (entry k).signature
  unfolding agrees
  agrees_is e = same_is _ _ e

  pub is_agrees : own wide h.n (page_at h.page.count bucket k) ≡ (entry k).signature → agrees h entry bucket k ≡ true
  unfolding agrees
  is_agrees e = is_same _ _ e
