-- Steps from place 0 to finished do what the whole store does, in image, map and pages written.
-- Assumes nothing.
use mathlib.Core.Path.{◌≡◌, refl, sym, ap, ap₂, ◌∙◌, subst}
use mathlib.Core.Logic.{⊎_elim}
use mathlib.Core.Bool.{Bool, true, false, not, cond}
use mathlib.Core.List.{List, [], ◌∷◌, ◌++◌}
use Prim.Native.Nat.{ℕ, zero, suc, ◌≤◌, ◌<◌}
use native.Mathlib.Nat.{le_refl}
use native.Mathlib.Omega.{arith}
use lib.Dec.{ltb}
use lib.ListN.{length}
use Rattle.units.specs.Filling.{room}
use Rattle.units.specs.Naming.{named, told as told_listed}
use Rattle.units.specs.Refusals.{Test, first, gives, ROOM}
use Rattle.units.specs.Writing.{written}
use Rattle.units.specs.declared.Refusal.{Refusal}
use Rattle.units.specs.Refusals.{Verdict}
use Rattle.units.proofs.Naming.{named_none}
use Rattle.units.proofs.Refusing.{allowed_not_refused, same_refusal}
use Rattle.signature.specs.Objects.{Octets}
use Rattle.map.specs.Files.{pages}
use Rattle.map.specs.Reading.{header_of, reading, entry_at}
use Rattle.map.specs.declared.Header.{Header}
use Rattle.backup.specs.Backups.{agrees, changed}
use Rattle.backup.specs.Openings.{map_test, match_test}
use Rattle.backup.proofs.Opened.{Usable}
use Rattle.store.specs.Steps.{told, page_answer, step_unless, open_step, stepping}
use Rattle.store.specs.Stores.{Stored, store_tests, storing}
use Rattle.store.specs.declared.Answer.TheVariants.{Finished}
use Rattle.store.specs.declared.Place.{Place}
use Rattle.store.specs.declared.Step.{Step}
use Rattle.store.proofs.Answers.{store_is}
use Rattle.store.proofs.Underway.{Ready, Through, Passed, Done, taken, none_through, through_reads, through_length, step_opens}
use Rattle.stored.specs.Walks.{Walk, Same, written_by, walked, walk_to, outset}
use Rattle.stored.proofs.Mirroring.{store_usable, store_leaves, store_counts}
use Rattle.std.specs.Prelude.{Ok}
use Rattle.units.specs.Refusals.{allowed, refused, number}

module _ (h : Header) (table image map : List ℕ) (ready : Ready h table image map) where
  -- where the walk stands after m steps
  record Reached (m : ℕ) (w : Walk) : Type 0 where
    place_is : w.place ≡ record { page = m }
    through : Through h table image map m w.image w.map
    numbers_are : w.numbers ≡ changed h table (entry_at h.n map) m

  noted : (t : Bool) (m : ℕ) → written_by (Ok (page_answer m t)) ≡ cond (not t) (m ∷ []) []
  noted true m = refl
  noted false m = refl

  -- the step at the place where the walk stands
  module _ (m : ℕ) (w : Walk) (r : Reached m w) where
    opens : stepping table w.image w.map w.place ≡ open_step h table w.image w.map (record { page = m })
    opens =
        step_opens h table w.image w.map w.place (through_reads ready r.through) ready.table_length
        (through_length ready r.through)
        ∙ ap (open_step h table w.image w.map) r.place_is

    abbrev step : Step
    step = record { answer = (stepping table w.image w.map w.place).answer; next = (stepping table w.image w.map w.place).next }

    on : m < pages h → Reached (suc m) (walk_to w (stepping table w.image w.map w.place))
    unfolding named
    on inside =
        ⊎_elim
        (λ (p : Passed ready r.through {s = step} opens).
        record {
          place_is = ap {B = Place} (λ (i : ℕ). record { page = i }) p.up;
          through =
              subst (λ (i : ℕ). Through h table image map i (stepping table w.image w.map w.place).image (stepping table w.image w.map w.place).map)
              p.up p.next;
          numbers_are =
              ap₂ ◌++◌ r.numbers_are (ap written_by p.told ∙ noted (agrees h (entry_at h.n map) table m) m);
        })
        (λ (d : Done ready r.through {s = step} opens). absurd (omega (arith, d.all)))
        (taken ready r.through {s = step} opens)

    ends : m ≡ pages h → (stepping table w.image w.map w.place).answer ≡ Ok Finished
    ends all =
        ⊎_elim
        (λ (p : Passed ready r.through {s = step} opens). absurd (omega (arith, p.inside)))
        (λ (d : Done ready r.through {s = step} opens). d.told)
        (taken ready r.through {s = step} opens)

    goes_on : told (stepping table w.image w.map w.place).answer ≡ allowed
    goes_on =
        ⊎_elim
        (λ (p : Passed ready r.through {s = step} opens). ap told p.told)
        (λ (d : Done ready r.through {s = step} opens). ap told d.told)
        (taken ready r.through {s = step} opens)

  reached : (m : ℕ) → m ≤ pages h → Reached m (walked table (outset image map) m)
  unfolding walked
  reached zero most = record { place_is = refl; through = none_through ready; numbers_are = sym (named_none _) }
  reached (suc m) most = on m (walked table (outset image map) m) (reached m (omega arith)) (omega arith)

-- a store that is not refused could start
store_ready : (h : Header) (table image map list : List ℕ) → Octets table → Octets map → reading map ≡ Ok h
    → (count : ℕ) → (storing table image map list).answer ≡ Ok count → Ready h table image map
store_ready h table image map list table_octets map_octets holds count answer =
    let u : Usable (length table) (length image) map h = store_usable h table image map list holds count answer in
    record { table_octets = table_octets; map_octets = map_octets; holds = holds; table_length = u.one_fits; image_length = u.other_fits }

pub steps_are_the_store : (h : Header) (table image map list : List ℕ) → Octets table → Octets map → reading map ≡ Ok h
    → (count : ℕ) → (storing table image map list).answer ≡ Ok count → Same (walked table (outset image map) (pages h)) table list count (storing table image map list)
steps_are_the_store h table image map list table_octets map_octets holds count answer =
    let ready : Ready h table image map = store_ready h table image map list table_octets map_octets holds count answer in
    let w : Walk = walked table (outset image map) (pages h) in
    let r : Reached h table image map ready (pages h) w = reached h table image map ready (pages h) (le_refl (pages h)) in
    let left : _ = store_leaves h table image map list holds count answer in
    record {
      image_same = r.through.image_is ∙ sym (ap (λ (s : Stored). s.image) left);
      map_same = r.through.map_is ∙ sym (ap (λ (s : Stored). s.map) left);
      list_same = ap (λ (s : Stored). s.list) left ∙ ap (written list 0) (sym r.numbers_are);
      count_same = store_counts h table image map list holds count answer ∙ ap length (sym r.numbers_are);
      finished = ends h table image map ready (pages h) w r refl;
    }

-- ---- a step that is refused can only be the first, before a byte has changed

-- where the store is not refused, no step up to finished is
pub no_step_refused : (h : Header) (table image map list : List ℕ) → Octets table → Octets map → reading map ≡ Ok h
    → (count : ℕ) → (storing table image map list).answer ≡ Ok count
    → (m : ℕ) → m ≤ pages h
    → told (stepping table (walked table (outset image map) m).image (walked table (outset image map) m).map (walked table (outset image map) m).place).answer ≡ allowed
no_step_refused h table image map list table_octets map_octets holds count answer m most =
    let ready : Ready h table image map = store_ready h table image map list table_octets map_octets holds count answer in
    goes_on h table image map ready m (walked table (outset image map) m) (reached h table image map ready m most)

-- the third of three tests does not decide
first_two : (t u v w : Test) (r : Refusal) → first (t ∷ u ∷ v ∷ []) ≡ refused r → (v.refusal ≡ r → ⊥) → first (t ∷ u ∷ w ∷ []) ≡ refused r
first_two t u v w r e other = at t.applies u.applies v.applies refl refl refl
  where
    at : (a b d : Bool) → t.applies ≡ a → u.applies ≡ b → v.applies ≡ d → first (t ∷ u ∷ w ∷ []) ≡ refused r
    at true b d p q z = simp p (simp p at e)
    at false true d p q z = simp (p, q) (simp (p, q) at e)
    at false false true p q z = absurd (other (same_refusal v.refusal r (simp (p, q, z) at e)))
    at false false false p q z = absurd (allowed_not_refused r (simp (p, q, z) at e))

-- and where it is refused for anything but the list's room, the first step is refused with the same
pub first_step_refused : (table image map list : List ℕ) (r : Refusal) → told_listed (storing table image map list).answer ≡ refused r → ((number r) ≡ ROOM → ⊥)
    → told (stepping table image map (record { page = 0 })).answer ≡ refused r
unfolding stepping
first_step_refused table image map list r e other =
    let h : Header = header_of map in
    let why : first (store_tests table image map list) ≡ refused r = sym (store_is table image map list) ∙ e in
    ap (λ (v : Verdict). told (step_unless v h table image map (record { page = 0 })).answer)
    (first_two (map_test map) (match_test (length table) (length image) h) (room (pages h) list) (gives Refusal.PageNo (ltb (pages h) 0)) r why
    (λ q. other (sym (ap (λ (x : Refusal). number x) q))))
