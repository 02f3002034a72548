-- The header's part in reading a map: where it breaks the map breaks there, and where it is kept the entries decide.
-- Assumes nothing.
use Rattle.units.specs.Refusals.{value}
use Rattle.units.proofs.Refusing.{same_refusal}
use Rattle.map.specs.Reading.{broken}
use mathlib.Core.Path.{◌≡◌, refl, sym, ap, ◌∙◌}
use mathlib.Core.Bool.{Bool, true, false}
use mathlib.Core.List.{List, [], ◌∷◌}
use Prim.Native.Nat.{ℕ, zero, suc, ◌+◌, ◌≤◌}
use native.Mathlib.Omega.{arith}
use lib.Dec.{leb}
use borrow.Author.Tests.{leb-true, not-false}
use Rattle.units.specs.Refusals.{Test, first, MAP}
use Rattle.units.specs.declared.Refusal.{Refusal}
use Rattle.units.specs.Refusals.{Verdict}
use Rattle.units.proofs.Refusing.{Quiet, allowed_not_refused, allowed_when, first_after, first_before}
use Rattle.map.specs.Files.{pages, entry_bytes}
use Rattle.reader.specs.Fields.{field_at, is_due}
use Rattle.map.specs.Reading.{header_of, header_tests, entry_tests, map_tests, told, reading, n_keeps_rule, page_keeps_rule, bucket_keeps_rule}
use Rattle.map.specs.declared.Header.{Header}
use Rattle.map.specs.declared.Break.{Break}
use Rattle.map.specs.Reading.{Reading}
use Rattle.map.proofs.Fields.{halves}
use Rattle.std.specs.Prelude.{Ok, Err}
use Rattle.units.specs.Refusals.{allowed, refused, number}

never : {A : Type 0} (h : Header) (p : ℕ) → Ok h ≡ broken p → A
never h p e = let z : ◌≡◌ {A = ℕ} 0 1 = cc in absurd (omega arith)

same_header : (g h : Header) → told allowed g ≡ told allowed h → g ≡ h
same_header g h e = cc

pub told_breaks : (v : Verdict) (h : Header) (p : ℕ) → told v h ≡ broken p → (r : Refusal) × ((v ≡ refused r) × (value r ≡ p))
told_breaks (Ok _) h p e = never h p e
told_breaks (Err r) h p e = (r, (refl, place (value r) p e))
  where
    place : (a b : ℕ) → broken a ≡ broken b → a ≡ b
    place a b q = ap (λ (x : Reading). at x) q
      where
        at : Reading → ℕ
        at (Ok g) = 0
        at (Err b) = b.place

pub told_holds : (v : Verdict) (g h : Header) → told v g ≡ Ok h → (v ≡ allowed) × (g ≡ h)
told_holds (Ok _) g h e = (refl, same_header g h e)
told_holds (Err r) g h e = never h (value r) (sym e)

-- every test of the list gives MAP
abbrev AllMap : List Test → Type 0
AllMap [] = Unit {0}
AllMap (t ∷ ts) = (number t.refusal ≡ MAP) × AllMap ts

all_map : (ts : List Test) → AllMap ts → (r : Refusal) → first ts ≡ refused r → number r ≡ MAP
all_map [] a r e = absurd (allowed_not_refused r e)
all_map (t ∷ ts) a r e = at t.applies refl (all_map ts a.1 r)
  where
    at : (b : Bool) → t.applies ≡ b → (first ts ≡ refused r → number r ≡ MAP) → number r ≡ MAP
    at true p rest = sym (ap number (same_refusal t.refusal r (simp p at e))) ∙ a.0
    at false p rest = rest (simp p at e)

entries_map : (n : ℕ) (bytes : List ℕ) (m at : ℕ) → AllMap (entry_tests n bytes m at)
unfolding entry_tests
entries_map n bytes zero at = (refl, tt)
entries_map n bytes (suc m) at = (refl, entries_map n bytes m (at + entry_bytes n))

module _ (bytes : List ℕ) where
  -- what an allowed header says
  pub record Kept : Type 0 where
    pub n : n_keeps_rule bytes ≡ true
    pub page : page_keeps_rule bytes ≡ true
    pub bucket : bucket_keeps_rule bytes ≡ true

  pub header_kept : first (header_tests bytes) ≡ allowed → Kept
  header_kept e =
      let q : Quiet (header_tests bytes) = (allowed_when (header_tests bytes)).0 e in
      record { n = not-false _ q.0; page = not-false _ q.1.0; bucket = not-false _ q.1.1.0 }

  pub kept_header : Kept → first (header_tests bytes) ≡ allowed
  kept_header k = simp (k.n, k.page, k.bucket)

  pub header_breaks : (p : ℕ) → told (first (header_tests bytes)) (header_of bytes) ≡ broken p → reading bytes ≡ broken p
  unfolding reading
  header_breaks p e =
      let b : (r : Refusal) × ((first (header_tests bytes) ≡ refused r) × (value r ≡ p)) = told_breaks _ _ _ e in
      ap (λ (v : Verdict). told v (header_of bytes))
      (first_before (header_tests bytes) (entry_tests (header_of bytes).n bytes (pages (header_of bytes)) 18) b.0 b.1.0)
      ∙ ap broken b.1.1

  pub entries_decide : first (header_tests bytes) ≡ allowed
      → reading bytes ≡ told (first (entry_tests (header_of bytes).n bytes (pages (header_of bytes)) 18)) (header_of bytes)
  unfolding reading
  entries_decide e =
      ap (λ (v : Verdict). told v (header_of bytes))
      (first_after (header_tests bytes) (entry_tests (header_of bytes).n bytes (pages (header_of bytes)) 18) e)

  -- as the whole map is read: at the header's break, or on with its entries
  pub read_broken : {start : Reading} (b : Break) → start ≡ told (first (header_tests bytes)) (header_of bytes) → start ≡ Err b → Err b ≡ reading bytes
  read_broken b header e = sym (header_breaks b.place (sym header ∙ e))

  pub read_on : {start : Reading} (h : Header) → start ≡ told (first (header_tests bytes)) (header_of bytes) → start ≡ Ok h
      → told (first (entry_tests h.n bytes (pages h) 18)) h ≡ reading bytes
  read_on h header e =
      let holds : (first (header_tests bytes) ≡ allowed) × (header_of bytes ≡ h) = told_holds _ _ _ (sym header ∙ e) in
      ap (λ (g : Header). told (first (entry_tests g.n bytes (pages g) 18)) g) (sym holds.1) ∙ sym (entries_decide holds.0)

  pub n_small : Kept → (header_of bytes).n ≤ 4
  n_small k = leb-true _ _ (halves (leb 1 (header_of bytes).n) _ (halves (is_due 1 (field_at 0 bytes 0)) _ k.n).1).1

  -- whatever a map breaks, the number is MAP
  pub map_number : (r : Refusal) → first (map_tests bytes) ≡ refused r → number r ≡ MAP
  map_number r e =
      all_map (map_tests bytes) (refl, (refl, (refl, entries_map (header_of bytes).n bytes (pages (header_of bytes)) 18))) r e
