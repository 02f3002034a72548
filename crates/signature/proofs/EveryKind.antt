-- What is promised of the answers of sign, join and edit for every sound kind of symbol.
-- Assumes nothing.
use mathlib.Core.Path.{◌≡◌, refl, sym, ap, ap₂, ◌∙◌}
use mathlib.Core.Logic.{◌≢◌, ◌↔◌, dite}
use mathlib.Core.Bool.{and_self}
use mathlib.Core.List.{List, ◌++◌}
use Prim.Native.Nat.{ℕ, zero, suc, ◌+◌, ◌*◌, ◌%◌, ◌^◌, ◌≤◌, ◌<◌}
use native.Mathlib.Nat.{le_refl, le_trans, zero-lt-suc, pos_of_ne-zero}
use native.Mathlib.Decide.{ℕ_discrete}
use native.Mathlib.Omega.{arith}
use lib.Dec.{T}
use lib.ListN.{length}
use borrow.Author.Tests.{le-leb, lt-leb, eq-eqb}
use Rattle.units.specs.declared.Refusal.{Refusal}
use Rattle.units.specs.Counts.{symbols_in}
use Rattle.units.specs.Sizes.{n_allowed}
use Rattle.units.specs.Refusals.{Verdict, refused, Test, first}
use Rattle.units.proofs.Refusing.{Lowest, ascending, told_lowest}
use Rattle.field.specs.Field.{◌⊕◌, product, power, α, order}
use Rattle.field.proofs.Tests.{Passes, formed}
use Rattle.field.proofs.Instances.{GF16_passes}
use Rattle.signature.specs.Objects.{Octets, symbol, symbols}
use Rattle.signature.specs.Signatures.{signature, joined, edited, handed, answered}
use Rattle.signature.specs.Kinds.{Kind, wide}
use Rattle.signature.specs.Operations.{told, unless, decided, own, sign_tests, signing, join_tests, joining, edit_tests, editing}
use Rattle.signature.specs.Differences.{differing}
use Rattle.signature.specs.Edits.{Edited}
use Rattle.signature.specs.declared.Signature.{Signature}
use Rattle.signature.proofs.Handing.{answered_same, answered_handed, answered_tells, answered_below}
use Rattle.components.proofs.Octets.{symbol_element}
use Rattle.components.proofs.Components.{component_element}
use Rattle.signature.proofs.Parts.{whole_length, symbols_parts}
use Rattle.signature.proofs.Joining.{join_law}
use Rattle.signature.proofs.Editing.{edit_law}
use Rattle.signature.proofs.Differing.{none_differs}
use Rattle.signature.proofs.Detection.{told_apart}
use Rattle.std.specs.Prelude.{Ok, Err}

-- its symbols are elements, and an object has no more positions than α has powers
pub record Sound (K : Kind) : Type 0 where
  pub passes : Passes K.field
  pub some : 0 < K.size
  pub fits : 256 ^ K.size ≤ 2 ^ K.field.width
  pub short : K.most ≤ order K.field

pub wide_sound : Sound wide
wide_sound = record { passes = GF16_passes; some = zero-lt-suc 1; fits = le_refl 65536; short = omega arith }

-- ---- a number is given exactly when it is the lowest that applies

told_unless : (v : Verdict) (s : Signature) → told (unless v s) ≡ v
told_unless (Ok _) s = refl
told_unless (Err r) s = refl

refused_when : (ts : List Test) → T (ascending ts) → (s : Signature) (r : Refusal) → (told (decided ts s) ≡ refused r) ↔ Lowest ts r
refused_when ts up s r = told_lowest _ ts (told_unless (first ts) s) up r

-- ---- components above n are zero in every answer

pub above_zero : (n : ℕ) (s : ℕ → ℕ) (j : ℕ) → n < j → handed (answered n s) j ≡ 0
above_zero n s zero h = refl
above_zero n s (suc zero) h = simp (lt-leb 1 n h)
above_zero n s (suc (suc zero)) h = simp (lt-leb 2 n h)
above_zero n s (suc (suc (suc zero))) h = simp (lt-leb 3 n h)
above_zero n s (suc (suc (suc (suc zero)))) h = simp (lt-leb 4 n h)
above_zero n s (suc (suc (suc (suc (suc j))))) h = refl

-- a signature with zeros above its n
abbrev pub cleared : Signature → Signature
cleared s = answered s.n (handed s)

module _ (K : Kind) where
  pub sign_refused : (n : ℕ) (object : List ℕ) (r : Refusal) → (told (signing K n object) ≡ refused r) ↔ Lowest (sign_tests K n object) r
  sign_refused n object = refused_when (sign_tests K n object) tt (own K n object)

  pub join_refused : (one : Signature) (a : ℕ) (two : Signature) (b : ℕ) (r : Refusal)
      → (told (joining K one a two b) ≡ refused r) ↔ Lowest (join_tests K one a two b) r
  join_refused one a two b = refused_when (join_tests K one a two b) tt (answered one.n (joined K.field (handed one) a (handed two)))

  pub edit_refused : (s : Signature) (r : ℕ) (old new : List ℕ) (why : Refusal)
      → (told (editing K s r old new) ≡ refused why) ↔ Lowest (edit_tests K s r old new) why
  edit_refused s r old new =
      refused_when (edit_tests K s r old new) tt
      (answered s.n (edited K.field (handed s) r (signature K.field K.size old) (signature K.field K.size new)))

  -- ---- and ignored on entry

  pub join_ignores_above : (one : Signature) (a : ℕ) (two : Signature) (b : ℕ) → two.n ≡ one.n → joining K (cleared one) a (cleared two) b ≡ joining K one a two b
  join_ignores_above one a two b same =
      ap (unless (first (join_tests K one a two b)))
      (answered_handed one.n (λ j x. x ⊕ product K.field (handed (cleared two) j) (power K.field α (j * a))) (handed one)
      ∙ ap (λ (m : ℕ). answered one.n (joined K.field (handed one) a (handed (answered m (handed two))))) same
      ∙ answered_handed one.n (λ j x. handed one j ⊕ product K.field x (power K.field α (j * a))) (handed two))

  pub edit_ignores_above : (s : Signature) (r : ℕ) (old new : List ℕ) → editing K (cleared s) r old new ≡ editing K s r old new
  edit_ignores_above s r old new =
      ap (unless (first (edit_tests K s r old new)))
      (answered_handed s.n
      (λ j x. x ⊕ product K.field (signature K.field K.size old j ⊕ signature K.field K.size new j) (power K.field α (j * r)))
      (handed s))

  module _ (sound : Sound K) where
    -- ---- a join of two parts, an edit of a page

    pub join_of_parts : (n : ℕ) (one two : List ℕ) → Octets two → length one % K.size ≡ 0
        → joining K (own K n one) (symbols K.size one) (own K n two) (symbols K.size two) ≡ signing K n (one ++ two)
    join_of_parts n one two octets even = ap₂ unless verdicts signatures
      where
        one_whole : length one ≡ symbols K.size one * K.size
        one_whole = whole_length K.size sound.some one even

        verdicts : first (join_tests K (own K n one) (symbols K.size one) (own K n two) (symbols K.size two)) ≡ first (sign_tests K n (one ++ two))
        verdicts = simp (and_self (n_allowed n), eq-eqb n n refl, symbols_parts K.size sound.some one two (symbols K.size one) one_whole)

        signatures : answered n (joined K.field (handed (own K n one)) (symbols K.size one) (handed (own K n two))) ≡ own K n (one ++ two)
        signatures =
            answered_handed n (λ j x. x ⊕ product K.field (handed (own K n two) j) (power K.field α (j * symbols K.size one))) (signature K.field K.size one)
            ∙ answered_handed n (λ j x. signature K.field K.size one j ⊕ product K.field x (power K.field α (j * symbols K.size one))) (signature K.field K.size two)
            ∙ answered_same n _ _
            (λ j. sym (join_law K.field (formed K.field sound.passes) K.size sound.some sound.fits one two (symbols K.size one) one_whole octets j))

    pub edit_of_page : (n : ℕ) (page after : List ℕ) (r : ℕ) (old new : List ℕ) → Edited K.size page after r old new
        → length old % K.size ≡ 0 → length new ≡ length old → Octets page → Octets after → symbols K.size page ≤ K.most
        → editing K (own K n page) r old new ≡ signing K n after
    edit_of_page n page after r old new e even equal page_octets after-octets short = ap₂ unless verdicts signatures
      where
        old_whole : length old ≡ symbols K.size old * K.size
        old_whole = whole_length K.size sound.some old even

        same_symbols : symbols K.size after ≡ symbols K.size page
        same_symbols = ap (symbols_in K.size) e.same_length

        verdicts : first (edit_tests K (own K n page) r old new) ≡ first (sign_tests K n after)
        verdicts =
            let after-within : symbols K.size after ≤ K.most = omega (arith, same_symbols, short) in
            simp (
              le-leb (r + symbols K.size old) K.most (le_trans e.inside short),
              le-leb (symbols K.size after) K.most after-within,
              eq-eqb (length old % K.size) 0 even,
              eq-eqb (length new % K.size) 0 (ap (λ (m : ℕ). m % K.size) equal ∙ even),
              eq-eqb (length old) (length new) (sym equal),
            )

        signatures : answered n (edited K.field (handed (own K n page)) r (signature K.field K.size old) (signature K.field K.size new)) ≡ own K n after
        signatures =
            answered_handed n (λ j x. x ⊕ product K.field (signature K.field K.size old j ⊕ signature K.field K.size new j) (power K.field α (j * r)))
            (signature K.field K.size page)
            ∙ answered_same n _ _
            (λ j.
            sym (edit_law K.field (formed K.field sound.passes) K.size sound.some sound.fits page after r old new (symbols K.size old) e old_whole
            (equal ∙ old_whole) page_octets after-octets j))

    -- ---- every component of an object's own signature is an element

    pub own_below : (n : ℕ) (object : List ℕ) → Octets object → (j : ℕ) → handed (own K n object) j < 2 ^ K.field.width
    own_below n object octets =
        answered_below K.field.width n (signature K.field K.size object)
        (λ j. component_element K.field (formed K.field sound.passes) _ (symbol K.size object) j (symbol_element K.field K.size sound.fits object octets))

    -- ---- sure detection

    module _ (n : ℕ) (four : n ≤ 4) (one other : List ℕ) (one-octets : Octets one) (other-octets : Octets other)
        (lengths : length one ≡ length other) (short : symbols K.size one ≤ K.most) where
      pub own_apart : 1 ≤ differing K.size one other → differing K.size one other ≤ n → own K n one ≢ own K n other
      own_apart some few e =
          let (j, pos, up, apart) =
          told_apart K.field sound.passes K.size sound.fits one other one-octets other-octets lengths (le_trans short sound.short) n some few in
          apart (answered_tells n (signature K.field K.size one) (signature K.field K.size other) j pos up four e)

      -- so few changes and one signature leave one object
      pub own_tells : differing K.size one other ≤ n → own K n one ≡ own K n other → one ≡ other
      own_tells few e =
          dite (ℕ_discrete (differing K.size one other) 0)
          (λ (none : differing K.size one other ≡ 0). none_differs K.size sound.some one other one-octets other-octets lengths none)
          (λ (some : differing K.size one other ≢ 0). absurd (own_apart (pos_of_ne-zero some) few e))
