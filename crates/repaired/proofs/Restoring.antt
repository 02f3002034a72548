-- A page by the signature of the page that it was: one damaged symbol is found and put right, and where n tells them two and more are beyond.
-- Assumes nothing.
use mathlib.Core.Path.{◌≡◌, refl, sym, ap, ◌∙◌, subst}
use mathlib.Core.Logic.{◌≢◌, dite}
use mathlib.Core.Bool.{Bool, true, false, not}
use mathlib.Core.List.{List}
use Prim.Native.Nat.{ℕ, suc, ◌+◌, ◌-◌, ◌*◌, ◌%◌, ◌≤◌, ◌<◌}
use native.Mathlib.Nat.{zero-lt-suc}
use native.Mathlib.Decide.{dec_lt, ℕ_discrete}
use native.Mathlib.Omega.{arith}
use lib.Dec.{eqb}
use lib.ListN.{length, get_or, get_or-eq_default}
use borrow.Author.Tests.{eq-eqb, eqb-true, not-false}
use Rattle.units.specs.Counts.{symbols_in}
use Rattle.signature.specs.Differences.{count, differing}
use Rattle.signature.specs.Kinds.{wide}
use Rattle.signature.specs.Objects.{Octets, symbol, symbols}
use Rattle.signature.specs.Operations.{own}
use Rattle.signature.specs.declared.Signature.{Signature}
use Rattle.signature.proofs.Counting.{Lone, count_none, count_one, count_but_one}
use Rattle.signature.proofs.Differing.{none_differs}
use Rattle.signature.proofs.EveryKind.{wide_sound, own_apart, own_tells}
use Rattle.signature.proofs.Numbers.{two_bytes}
use Rattle.signature.proofs.Octets.{low_first_lt}
use Rattle.backup.specs.Backups.{same}
use Rattle.backup.proofs.Sameness.{same_is}
use Rattle.repair.specs.Changes.{Tells, changed, fits}
use Rattle.repair.specs.Repairs.{change_of, put}
use Rattle.repair.specs.declared.Repair.TheVariants.{Repaired, Beyond}
use Rattle.repair.proofs.Changed.{changed_length, changed_octets, changed_other, both_bytes, low_byte}
use Rattle.repair.proofs.Finding.{put_found, put_none}
use Rattle.repair.proofs.Naming.{Fitting, fitting, fits_when, one_change, value_below}

module _ (s : Signature) (page before : List ℕ) (page_octets : Octets page) (before-octets : Octets before) (lengths : length page ≡ length before)
    (tells : Tells wide s page) (entry : s ≡ own wide s.n before) where
  -- symbol i is another
  abbrev other : ℕ → Bool
  other i = not (eqb (symbol 2 page i) (symbol 2 before i))

  pub another : 1 ≤ differing 2 page before → differing 2 page before ≤ s.n → same (own wide s.n page) s ≡ false
  another some few = at (same (own wide s.n page) s) refl
    where
      at : (b : Bool) → same (own wide s.n page) s ≡ b → b ≡ false
      at true e = absurd (own_apart wide wide_sound s.n tells.four page before page_octets before-octets lengths tells.short some few (same_is _ _ e ∙ entry))
      at false e = refl

  -- what stood there fits there
  module _ (i : ℕ) (inside : i < symbols 2 page) where
    abbrev x : ℕ
    x = symbol 2 before i

    pub stood : symbol 2 (changed wide page i x) i ≡ x
    unfolding symbol
    stood =
        dite (dec_lt 1 (length page - i * 2))
        (λ (room : 1 < length page - i * 2). both_bytes page i x inside room (low_first_lt 2 before (i * 2) before-octets))
        (λ none.
        let past : length before ≤ i * 2 + 1 = omega arith in
        let high : get_or before (i * 2 + 1) 0 ≡ 0 = get_or-eq_default before 0 past in
        let small : x % 256 ≡ x = omega (arith, two_bytes before (i * 2), before-octets (i * 2)) in
        low_byte page i x inside (omega arith) ∙ small)

    after_long : length (changed wide page i x) ≡ length before
    after_long = changed_length wide wide_sound page i x inside ∙ lengths

    pub put_right : ((k : ℕ) → k < symbols 2 page → k ≢ i → other k ≡ false) → changed wide page i x ≡ before
    unfolding differing
    put_right no_other =
        none_differs 2 (zero-lt-suc 1) (changed wide page i x) before (changed_octets wide wide_sound page i x inside page_octets) before-octets after_long
        (count_none (symbols 2 (changed wide page i x)) (λ k. not (eqb (symbol 2 (changed wide page i x) k) (symbol 2 before k)))
        (λ k h. ap not (eq-eqb _ _ (symbol_is k h))))
      where
        symbol_is : (k : ℕ) → k < symbols 2 (changed wide page i x) → symbol 2 (changed wide page i x) k ≡ symbol 2 before k
        symbol_is k h =
            dite (ℕ_discrete k i)
            (λ (is : k ≡ i). ap (symbol 2 (changed wide page i x)) is ∙ stood ∙ ap (symbol 2 before) (sym is))
            (λ (apart : k ≢ i).
            let within : k < symbols 2 page = omega (arith, changed_length wide wide_sound page i x inside) in
            changed_other wide wide_sound page i x inside k apart ∙ eqb-true _ _ (not-false _ (no_other k within apart)))

  -- ---- one damaged symbol

  pub record Restored : Type 0 where
    pub position : ℕ
    pub answer : put s page ≡ Repaired (change_of s.n page position (symbol 2 before position))
    pub page_is : changed wide page position (symbol 2 before position) ≡ before

  pub one_damaged : differing 2 page before ≡ 1 → Restored
  unfolding differing
  one_damaged one =
      let lone : Lone (symbols 2 page) other = count_one (symbols 2 page) other one in
      let i : ℕ = lone.place in
      let wrong : same (own wide s.n page) s ≡ false = another (omega arith) (omega (arith, tells.some)) in
      let is : changed wide page i (symbol 2 before i) ≡ before = put_right i lone.below lone.no_other in
      let f : Fitting wide s page i (symbol 2 before i) = record { holds = stood i lone.below; gives = ap (own wide s.n) is ∙ sym entry } in
      let fit : fits wide s page i (symbol 2 before i) ≡ true = fits_when wide s page i (symbol 2 before i) f in
      record {
        position = i;
        answer = put_found s page i (symbol 2 before i) lone.below
            (value_below wide wide_sound s page page_octets tells wrong i (symbol 2 before i) lone.below f) fit
            (λ k y h e. one_change wide wide_sound s page page_octets tells wrong k y i (symbol 2 before i) h lone.below e fit);
        page_is = is;
      }

  -- ---- two and more, below n

  nothing_other : (k : ℕ) → count k (λ i. false) ≡ 0
  nothing_other k = count_none k (λ i. false) (λ i h. refl)

  module _ (k y : ℕ) (inside : k < symbols 2 page) where
    -- a change of one symbol brings in one difference at most
    one_more : differing 2 (changed wide page k y) before ≤ suc (differing 2 page before)
    unfolding differing
    one_more =
        let as_many : symbols 2 (changed wide page k y) ≡ symbols 2 page = ap (symbols_in 2) (changed_length wide wide_sound page k y inside) in
        subst (λ (m : ℕ). count m (λ i. not (eqb (symbol 2 (changed wide page k y) i) (symbol 2 before i))) ≤ suc (count (symbols 2 page) other)) (sym as_many)
        (count_but_one (symbols 2 page) k _ other
        (λ i h apart e. ap (λ (a : ℕ). not (eqb a (symbol 2 before i))) (changed_other wide wide_sound page k y inside i apart) ∙ e))

    -- and takes one away at most
    at_most_one : changed wide page k y ≡ before → differing 2 page before ≤ 1
    unfolding differing
    at_most_one is =
        let least : count (symbols 2 page) other ≤ suc (count (symbols 2 page) (λ i. false)) =
        count_but_one (symbols 2 page) k other (λ i. false)
        (λ i h apart e. ap not (eq-eqb _ _ (sym (changed_other wide wide_sound page k y inside i apart) ∙ ap (λ (l : List ℕ). symbol 2 l i) is))) in
        omega (arith, nothing_other (symbols 2 page))

    same_page : differing 2 page before < s.n → Fitting wide s page k y → changed wide page k y ≡ before
    same_page few f =
        own_tells wide wide_sound s.n tells.four (changed wide page k y) before (changed_octets wide wide_sound page k y inside page_octets) before-octets
        (changed_length wide wide_sound page k y inside ∙ lengths) (omega (arith, changed_length wide wide_sound page k y inside, tells.short)) (omega (arith, one_more))
        (f.gives ∙ entry)

  pub more_beyond : 2 ≤ differing 2 page before → differing 2 page before < s.n → put s page ≡ Beyond
  more_beyond some few = put_none s page none
    where
      none : (k y : ℕ) → k < symbols 2 page → fits wide s page k y ≡ true → ⊥
      none k y inside e = omega (arith, at_most_one k y inside (same_page k y inside few (fitting wide s page k y e)), some)
