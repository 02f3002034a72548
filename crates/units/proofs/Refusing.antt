-- "Given exactly when", once for any list of tests; and for tests in the table's order, that the lowest number that applies is given.
-- Assumes nothing.
use mathlib.Core.Path.{◌≡◌, refl, sym, ap, ap₂, ◌∙◌, subst}
use mathlib.Core.Logic.{◌↔◌, ⊎_elim}
use mathlib.Core.Bool.{Bool, true, false, ◌&&◌, cond}
use mathlib.Core.List.Memᴰ
use mathlib.Core.List.{List, [], ◌∷◌, ◌++◌, Memᴰ}
use Prim.Native.Nat.{ℕ, ◌≤◌, ◌<◌}
use native.Mathlib.Nat.{le_of_eq, le_of_lt}
use native.Mathlib.Omega.{arith}
use lib.Dec.{T, eqb, ltb, ltb→lt}
use Rattle.units.specs.declared.Refusal.{Refusal}
use Rattle.units.specs.Refusals.{Verdict}
use Rattle.units.specs.Refusals.{Test, first}
use Rattle.units.specs.Refusals.{allowed, refused, number, value}

-- no test of the list applies
abbrev pub Quiet : List Test → Type 0
Quiet [] = Unit {0}
Quiet (t ∷ ts) = (t.applies ≡ false) × Quiet ts

-- r is what the first test that applies gives
pub record Given (ts : List Test) (r : Refusal) : Type 0 where
  pub before : List Test
  pub here : Test
  pub after : List Test
  pub whole : ts ≡ before ++ here ∷ after
  pub quiet : Quiet before
  pub applies : here.applies ≡ true
  pub gives : here.refusal ≡ r

pub allowed_not_refused : (r : Refusal) → allowed ≡ refused r → ⊥
allowed_not_refused r p = let z : ◌≡◌ {A = ℕ} 0 1 = cc in omega arith

pub same_refusal : (r s : Refusal) → refused r ≡ refused s → r ≡ s
same_refusal r s p = cc

found : (ts : List Test) (r : Refusal) → first ts ≡ refused r → Given ts r
found [] r p = absurd (allowed_not_refused r p)
found (t ∷ ts) r p = at t.applies refl (found ts r)
  where
    at : (b : Bool) → t.applies ≡ b → (first ts ≡ refused r → Given ts r) → Given (t ∷ ts) r
    at true e rest =
        record { before = []; here = t; after = ts; whole = refl; quiet = tt; applies = e; gives = same_refusal t.refusal r (simp e at p) }
    at false e rest =
        let g : Given ts r = rest (simp e at p) in
        record {
          before = t ∷ g.before;
          here = g.here;
          after = g.after;
          whole = ap {B = List Test} (λ l. t ∷ l) g.whole;
          quiet = (e, g.quiet);
          applies = g.applies;
          gives = g.gives;
        }

reached : (before : List Test) (t : Test) (after : List Test) → Quiet before → t.applies ≡ true → first (before ++ t ∷ after) ≡ refused t.refusal
reached [] t after q e = simp e
reached (b ∷ bs) t after q e = simp q.0 (reached bs t after q.1 e)

pub exactly_when : (ts : List Test) (r : Refusal) → (first ts ≡ refused r) ↔ Given ts r
exactly_when ts r =
    (found ts r, λ g. ap first g.whole ∙ reached g.before g.here g.after g.quiet g.applies ∙ ap refused g.gives)

all_quiet : (ts : List Test) → first ts ≡ allowed → Quiet ts
all_quiet [] p = tt
all_quiet (t ∷ ts) p = at t.applies refl (all_quiet ts)
  where
    at : (b : Bool) → t.applies ≡ b → (first ts ≡ allowed → Quiet ts) → Quiet (t ∷ ts)
    at true e rest = absurd (allowed_not_refused t.refusal (sym (simp e at p)))
    at false e rest = (e, rest (simp e at p))

none_applies : (ts : List Test) → Quiet ts → first ts ≡ allowed
none_applies [] q = refl
none_applies (t ∷ ts) q = simp q.0 (none_applies ts q.1)

pub allowed_when : (ts : List Test) → (first ts ≡ allowed) ↔ Quiet ts
allowed_when ts = (all_quiet ts, none_applies ts)

-- tests after tests: the later ones count where no earlier one applies

pub first_after : (ts us : List Test) → first ts ≡ allowed → first (ts ++ us) ≡ first us
first_after [] us p = refl
first_after (t ∷ ts) us p = let q : _ = all_quiet (t ∷ ts) p in simp q.0 (first_after ts us (none_applies ts q.1))

pub first_before : (ts us : List Test) (r : Refusal) → first ts ≡ refused r → first (ts ++ us) ≡ refused r
first_before [] us r p = absurd (allowed_not_refused r p)
first_before (t ∷ ts) us r p = at t.applies refl (first_before ts us r)
  where
    at : (b : Bool) → t.applies ≡ b → (first ts ≡ refused r → first (ts ++ us) ≡ refused r) → first ((t ∷ ts) ++ us) ≡ refused r
    at true e rest = simp e (simp e at p)
    at false e rest = simp e (rest (simp e at p))

-- ---- tests in the table's order

-- every number in the list is above n
abbrev pub above : ℕ → List Test → Bool
above n [] = true
above n (t ∷ ts) = ltb n (number t.refusal) && above n ts

abbrev pub ascending : List Test → Bool
ascending [] = true
ascending (t ∷ ts) = above (number t.refusal) ts && ascending ts

-- r is what a test of the list that applies gives, and none that applies has a lower number
pub record Lowest (ts : List Test) (r : Refusal) : Type 0 where
  pub here : Test
  pub listed : Memᴰ here ts
  pub applies : here.applies ≡ true
  pub gives : here.refusal ≡ r
  pub lowest : (u : Test) → Memᴰ u ts → u.applies ≡ true → (number r) ≤ (number u.refusal)

halves : (a b : Bool) → T (a && b) → T a × T b
halves true b t = (tt, t)
halves false b t = absurd t

above_each : (n : ℕ) (ts : List Test) → T (above n ts) → (u : Test) → Memᴰ u ts → n < (number u.refusal)
above_each n [] h u m = absurd (Memᴰ.not-nil m)
above_each n (t ∷ ts) h u m =
    let both : T (ltb n (number t.refusal)) × T (above n ts) = halves (ltb n (number t.refusal)) (above n ts) h in
    ⊎_elim
    (λ (e : u ≡ t). subst (λ (x : Test). n < (number x.refusal)) (sym e) (ltb→lt n (number t.refusal) both.0))
    (λ (k : Memᴰ u ts). above_each n ts both.1 u k)
    (Memᴰ.cases_cons m)

-- a refusal of tests whose numbers are all above n has a number above n
pub lowest_above : (n : ℕ) (ts : List Test) → T (above n ts) → (r : Refusal) → Lowest ts r → n < (number r)
lowest_above n ts h r g = subst (λ (x : Refusal). n < (number x)) g.gives (above_each n ts h g.here g.listed)

pub not_both : (b : Bool) → b ≡ true → b ≡ false → ⊥
not_both b p q = let z : ◌≡◌ {A = ℕ} 0 1 = cc in omega arith

lowest_of : (ts : List Test) → T (ascending ts) → (r : Refusal) → first ts ≡ refused r → Lowest ts r
lowest_of [] h r p = absurd (allowed_not_refused r p)
lowest_of (t ∷ ts) h r p = at t.applies refl (lowest_of ts both.1 r)
  where
    both : T (above (number t.refusal) ts) × T (ascending ts)
    both = halves (above (number t.refusal) ts) (ascending ts) h

    at : (b : Bool) → t.applies ≡ b → (first ts ≡ refused r → Lowest ts r) → Lowest (t ∷ ts) r
    at true e rest =
        let q : t.refusal ≡ r = same_refusal t.refusal r (simp e at p) in
        record {
          here = t;
          listed = Memᴰ.head refl;
          applies = e;
          gives = q;
          lowest = λ u m a. subst (λ (x : Refusal). number x ≤ (number u.refusal)) q
              (⊎_elim
              (λ (k : u ≡ t). le_of_eq (ap (λ (x : Test). (number x.refusal)) (sym k)))
              (λ (k : Memᴰ u ts). le_of_lt (above_each (number t.refusal) ts both.0 u k))
              (Memᴰ.cases_cons m));
        }
    at false e rest =
        let g : Lowest ts r = rest (simp e at p) in
        record {
          here = g.here;
          listed = Memᴰ.tail g.listed;
          applies = g.applies;
          gives = g.gives;
          lowest = λ u m a.
              ⊎_elim
              (λ (k : u ≡ t). absurd (not_both t.applies (ap (λ (x : Test). x.applies) (sym k) ∙ a) e))
              (λ (k : Memᴰ u ts). g.lowest u k a)
              (Memᴰ.cases_cons m);
        }

given_of : (ts : List Test) → T (ascending ts) → (r : Refusal) → Lowest ts r → first ts ≡ refused r
given_of [] h r g = absurd (Memᴰ.not-nil g.listed)
given_of (t ∷ ts) h r g = at t.applies refl (given_of ts both.1 r)
  where
    both : T (above (number t.refusal) ts) × T (ascending ts)
    both = halves (above (number t.refusal) ts) (ascending ts) h

    at : (b : Bool) → t.applies ≡ b → (Lowest ts r → first ts ≡ refused r) → first (t ∷ ts) ≡ refused r
    at true e rest =
        simp e
        (⊎_elim
        (λ (k : g.here ≡ t). ap refused (ap (λ (x : Test). x.refusal) (sym k) ∙ g.gives))
        (λ (k : Memᴰ g.here ts).
        let lower : (number t.refusal) < (number g.here.refusal) = above_each (number t.refusal) ts both.0 g.here k in
        let least : (number r) ≤ (number t.refusal) = g.lowest t (Memᴰ.head refl) e in
        let equal : (number g.here.refusal) ≡ (number r) = ap (λ (x : Refusal). number x) g.gives in
        absurd (omega arith))
        (Memᴰ.cases_cons g.listed))
    at false e rest =
        simp e
        (⊎_elim
        (λ (k : g.here ≡ t). absurd (not_both t.applies (ap (λ (x : Test). x.applies) (sym k) ∙ g.applies) e))
        (λ (k : Memᴰ g.here ts).
        rest (record { here = g.here; listed = k; applies = g.applies; gives = g.gives; lowest = λ u m a. g.lowest u (Memᴰ.tail m) a }))
        (Memᴰ.cases_cons g.listed))

pub lowest_given : (ts : List Test) → T (ascending ts) → (r : Refusal) → (first ts ≡ refused r) ↔ Lowest ts r
lowest_given ts h r = (lowest_of ts h r, given_of ts h r)

-- what the table says of an answer is what its tests say, so a number is given exactly when it is the lowest that applies
pub told_lowest : (v : Verdict) (ts : List Test) → v ≡ first ts → T (ascending ts) → (r : Refusal) → (v ≡ refused r) ↔ Lowest ts r
told_lowest v ts is up r = (λ p. (lowest_given ts up r).0 (sym is ∙ p), λ g. is ∙ (lowest_given ts up r).1 g)

-- ---- the number and the value tell the refusal

-- a refusal that has this number and value
by : ℕ → ℕ → Refusal
by n v =
    cond (eqb n 1) Refusal.Size
    (cond (eqb n 2) Refusal.Page
    (cond (eqb n 3) Refusal.Long
    (cond (eqb n 4) Refusal.Odd
    (cond (eqb n 5) (Refusal.Map v)
    (cond (eqb n 6) Refusal.Match
    (cond (eqb n 7) (Refusal.Room v)
    (cond (eqb n 8) Refusal.Empty
    (cond (eqb n 9) Refusal.PageNo
    (cond (eqb n 10) (Refusal.Damaged v)
    Refusal.Thin)))))))))

is_by : (r : Refusal) → by (number r) (value r) ≡ r
unfolding by
is_by Refusal.Size = refl
is_by Refusal.Page = refl
is_by Refusal.Long = refl
is_by Refusal.Odd = refl
is_by (Refusal.Map v) = refl
is_by Refusal.Match = refl
is_by (Refusal.Room v) = refl
is_by Refusal.Empty = refl
is_by Refusal.PageNo = refl
is_by (Refusal.Damaged v) = refl
is_by Refusal.Thin = refl

pub refused_one_answer : (r s : Refusal) → number r ≡ number s → value r ≡ value s → r ≡ s
refused_one_answer r s n v = sym (is_by r) ∙ ap₂ by n v ∙ is_by s
