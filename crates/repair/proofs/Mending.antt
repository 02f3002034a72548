-- What a page's answer says of the page, and what a repair is on a backup that was opened.
-- Assumes nothing.
use mathlib.Core.Path.{◌≡◌, refl, sym, ap, ◌∙◌, subst}
use mathlib.Core.Bool.{Bool, true, false, cond}
use mathlib.Core.List.{List}
use Prim.Native.Nat.{ℕ, ◌≤◌, ◌<◌}
use native.Mathlib.Omega.{arith}
use lib.Dec.{ltb}
use borrow.Author.Tests.{ltb-true, lt-ltb, le-ltb, le-leb, lt-leb}
use Rattle.signature.specs.Kinds.{wide}
use Rattle.signature.specs.Objects.{symbols}
use Rattle.signature.specs.Operations.{own}
use Rattle.signature.specs.declared.Signature.{Signature}
use Rattle.map.specs.Buckets.{page_at}
use Rattle.map.specs.Files.{pages}
use Rattle.map.specs.Reading.{entry_at}
use Rattle.map.specs.declared.Entry.{Entry}
use Rattle.map.specs.declared.Header.{Header}
use Rattle.backup.specs.Backups.{same}
use Rattle.repair.specs.Changes.{fits, value_at, position}
use Rattle.repair.specs.Repairs.{change_of, put, mended, outcome_of, image_left, open_repair}
use Rattle.repair.specs.declared.Change.{Change}
use Rattle.repair.specs.declared.Repair.TheVariants.{Whole, Repaired, Beyond}
use Rattle.repair.proofs.Finding.{found_fits}
use Rattle.std.specs.Prelude.{Ok, Err}
use Rattle.units.specs.declared.Refusal.{Refusal}

module _ (e : Entry) (page : List ℕ) where
  pub mended_whole : same (own wide e.signature.n page) e.signature ≡ true → mended e page ≡ Whole
  unfolding mended
  mended_whole so = simp so

  pub mended_else : same (own wide e.signature.n page) e.signature ≡ false → mended e page ≡ put e.signature page
  unfolding mended
  mended_else so = simp so

-- what stands behind an answer that names a change
pub record ChangeOf (s : Signature) (page : List ℕ) (c : Change) : Type 0 where
  pub inside : c.position.count < symbols 2 page
  pub is : c ≡ change_of s.n page c.position.count c.new
  pub fitted : fits wide s page c.position.count c.new ≡ true

same_change : (a b : Change) → Repaired a ≡ Repaired b → a ≡ b
same_change a b q = cc

pub put_change : (s : Signature) (page : List ℕ) (c : Change) → put s page ≡ Repaired c → ChangeOf s page c
unfolding put
put_change s page c e = at (ltb (position wide s page) (symbols 2 page)) refl e
  where
    at : (b : Bool) → ltb (position wide s page) (symbols 2 page) ≡ b
        → cond b (Repaired (change_of s.n page (position wide s page) (value_at wide s page (position wide s page)))) Beyond ≡ Repaired c → ChangeOf s page c
    at true so q =
        subst (ChangeOf s page) (same_change _ c q)
        (record { inside = ltb-true _ _ so; is = refl; fitted = found_fits wide s page (ltb-true _ _ so) })
    at false so q = let z : ◌≡◌ {A = ℕ} 0 1 = cc in absurd (omega arith)

pub mended_change : (e : Entry) (page : List ℕ) (c : Change) → mended e page ≡ Repaired c → ChangeOf e.signature page c
unfolding mended
mended_change e page c q = at (same (own wide e.signature.n page) e.signature) q
  where
    at : (b : Bool) → cond b Whole (put e.signature page) ≡ Repaired c → ChangeOf e.signature page c
    at true q = let z : ◌≡◌ {A = ℕ} 0 1 = cc in absurd (omega arith)
    at false q = put_change e.signature page c q

-- ---- a page of a backup that was opened

module _ (h : Header) (image map : List ℕ) (k : ℕ) where
  pub open_past : pages h ≤ k → open_repair h image map k ≡ outcome_of (Err Refusal.PageNo) image
  unfolding open_repair
  open_past past = simp (le-leb _ _ past)

  pub open_thin : k < pages h → h.n < 2 → open_repair h image map k ≡ outcome_of (Err Refusal.Thin) image
  unfolding open_repair
  open_thin inside thin = simp (lt-leb _ _ inside, lt-ltb _ _ thin)

  pub open_thin_as : {r : Refusal} → k < pages h → h.n < 2 → r ≡ Refusal.Thin → outcome_of (Err r) image ≡ open_repair h image map k
  open_thin_as inside thin is = ap (λ (r : Refusal). outcome_of (Err r) image) is ∙ sym (open_thin inside thin)

  pub open_mends : k < pages h → 2 ≤ h.n
      → open_repair h image map k
      ≡ outcome_of (Ok (mended (entry_at h.n map k) (page_at h.page.count image k))) (image_left h (mended (entry_at h.n map k) (page_at h.page.count image k)) image k)
  unfolding open_repair
  open_mends inside two = simp (lt-leb _ _ inside, le-ltb _ _ two)
