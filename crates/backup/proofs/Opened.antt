-- What is known when a backup opens, and when it does not: the map's reading decides, then the lengths, then the operation's own tests.
-- Assumes nothing.
use Rattle.map.specs.Reading.{broken}
use mathlib.Core.Path.{◌≡◌, refl, sym, ap, ap₂, ◌∙◌, subst}
use mathlib.Core.Logic.{◌≢◌}
use mathlib.Core.Bool.{false}
use mathlib.Core.List.{List, [], ◌∷◌}
use Prim.Native.Nat.{ℕ}
use native.Mathlib.Omega.{arith}
use lib.Dec.{eqb}
use borrow.Author.Tests.{eqb-true, eq-eqb, ne_eqb, not-false}
use Rattle.units.specs.Refusals.{Test, first}
use Rattle.units.specs.declared.Refusal.{Refusal}
use Rattle.units.specs.Refusals.{Verdict}
use Rattle.units.proofs.Refusing.{Quiet, allowed_when, first_after, first_before}
use Rattle.map.specs.Reading.{header_of, reading}
use Rattle.map.specs.declared.Header.{Header}
use Rattle.map.specs.declared.Break.{Break}
use Rattle.map.specs.Reading.{Reading}
use Rattle.map.proofs.Fields.{halves}
use Rattle.map.proofs.Holding.{holds_header}
use Rattle.backup.specs.Openings.{breaks, match_test, open_tests, opened, opening}
use Rattle.std.specs.Prelude.{Ok, Err}
use Rattle.units.specs.Refusals.{allowed, refused}

module _ (one other : ℕ) (map : List ℕ) where
  pub open_breaks : (place : ℕ) → reading map ≡ broken place → opening one other map ≡ Err (Refusal.Map place)
  unfolding opening
  open_breaks place e = simp e

  pub open_holds : (h : Header) → reading map ≡ Ok h → opening one other map ≡ opened (first (match_test one other h ∷ [])) h
  unfolding opening
  open_holds h e = simp e (ap (λ (g : Header). opened (first (match_test one other g ∷ [])) g) (holds_header map h e))

  -- as the code comes to it

  pub open_broken : {read : Reading} {r : Refusal} (b : Break) → read ≡ reading map → read ≡ Err b → r ≡ Refusal.Map b.place → Err r ≡ opening one other map
  open_broken b reads e gives = ap Err gives ∙ sym (open_breaks b.place (sym reads ∙ e))

  module _ {read : Reading} (h : Header) (reads : read ≡ reading map) (e : read ≡ Ok h) where
    pub one_unmatched : one ≢ h.bucket.count → Err Refusal.Match ≡ opening one other map
    one_unmatched apart = sym (open_holds h (sym reads ∙ e) ∙ simp (ne_eqb _ _ apart))

    pub other_unmatched : one ≡ h.bucket.count → other ≢ h.bucket.count → Err Refusal.Match ≡ opening one other map
    other_unmatched is apart = sym (open_holds h (sym reads ∙ e) ∙ simp (eq-eqb _ _ is, ne_eqb _ _ apart))

    pub both_matched : one ≡ h.bucket.count → other ≡ h.bucket.count → Ok h ≡ opening one other map
    both_matched is too = sym (open_holds h (sym reads ∙ e) ∙ simp (eq-eqb _ _ is, eq-eqb _ _ too))

-- ---- what an answer tells

pub opened_open : (v : Verdict) (g h : Header) → opened v g ≡ Ok h → (v ≡ allowed) × (g ≡ h)
opened_open (Ok _) g h e = (refl, same_header g h e)
  where
    same_header : (a b : Header) → opened allowed a ≡ opened allowed b → a ≡ b
    same_header a b q = cc
opened_open (Err r) g h e = let z : ◌≡◌ {A = ℕ} 0 1 = cc in absurd (omega arith)

pub opened_refused : (v : Verdict) (g : Header) (r : Refusal) → opened v g ≡ Err r → v ≡ refused r
opened_refused (Ok _) g r e = let z : ◌≡◌ {A = ℕ} 0 1 = cc in absurd (omega arith)
opened_refused (Err s) g r e = ap refused (same s r e)
  where
    same : (a b : Refusal) → opened (refused a) g ≡ opened (refused b) g → a ≡ b
    same a b q = cc

unbroken : (r : Reading) → breaks r ≡ false → (g : Header) × (r ≡ Ok g)
unbroken (Ok g) e = (g, refl)
unbroken (Err b) e = let z : ◌≡◌ {A = ℕ} 0 1 = cc in absurd (omega arith)

-- a backup that opens: the map reads, both buckets are as long as its header says, and the operation's own tests decide
pub record Usable (one other : ℕ) (map : List ℕ) (h : Header) : Type 0 where
  pub holds : reading map ≡ Ok h
  pub one_fits : one ≡ h.bucket.count
  pub other_fits : other ≡ h.bucket.count
  pub rest : (own : Header → List Test) → first (open_tests one other map (own (header_of map))) ≡ first (own h)

module _ (one other : ℕ) (map : List ℕ) where
  pub open_refused : (r : Refusal) → opening one other map ≡ Err r → (own : List Test) → first (open_tests one other map own) ≡ refused r
  unfolding opening
  open_refused r e own = first_before (open_tests one other map []) own r (opened_refused _ _ r e)

  usable : breaks (reading map) ≡ false → (match_test one other (header_of map)).applies ≡ false → Usable one other map (header_of map)
  usable read matched =
      let (g, is) = unbroken (reading map) read in
      let lengths : _ = halves (eqb one (header_of map).bucket.count) _ (not-false _ matched) in
      record {
        holds = is ∙ ap Ok (sym (holds_header map g is));
        one_fits = eqb-true _ _ lengths.0;
        other_fits = eqb-true _ _ lengths.1;
        rest = λ own. first_after (open_tests one other map []) (own (header_of map)) ((allowed_when (open_tests one other map [])).1 (read, (matched, tt)));
      }

  pub quiet_usable : (own : Header → List Test) → first (open_tests one other map (own (header_of map))) ≡ allowed → Usable one other map (header_of map)
  quiet_usable own e =
      let q : Quiet (open_tests one other map (own (header_of map))) = (allowed_when (open_tests one other map (own (header_of map)))).0 e in
      usable q.0 q.1.0

  pub open_usable : (h : Header) → opening one other map ≡ Ok h → Usable one other map h
  unfolding opening
  open_usable h e =
      let both : (first (open_tests one other map []) ≡ allowed) × (header_of map ≡ h) = opened_open _ _ h e in
      subst (Usable one other map) both.1 (quiet_usable (λ g. []) both.0)

  pub holds_usable : (h : Header) → reading map ≡ Ok h → one ≡ h.bucket.count → other ≡ h.bucket.count → Usable one other map h
  holds_usable h holds one_fits other_fits =
      let so : opened (first (match_test one other h ∷ [])) h ≡ Ok h = simp (eq-eqb _ _ one_fits, eq-eqb _ _ other_fits) in
      open_usable h (open_holds one other map h holds ∙ so)

-- ---- an operation that begins by opening: its answer, f, by its own tests and the header

module _ {A : Type 0} (f : Verdict → Header → A) (own : Header → List Test) (one other : ℕ) (map : List ℕ) where
  pub refused_as : (r : Refusal) → opening one other map ≡ Err r
      → f (first (open_tests one other map (own (header_of map)))) (header_of map) ≡ f (refused r) (header_of map)
  refused_as r e = ap (λ (v : Verdict). f v (header_of map)) (open_refused one other map r e (own (header_of map)))

  pub opened_as : (h : Header) → opening one other map ≡ Ok h → f (first (open_tests one other map (own (header_of map)))) (header_of map) ≡ f (first (own h)) h
  opened_as h e = let u : Usable one other map h = open_usable one other map h e in ap₂ f (u.rest own) (holds_header map h u.holds)
