-- A page of a backup under repair: what is whole stays, one damaged symbol is restored, more are beyond where n tells them; a repair gives the page
-- its entry's signature and changes no byte outside one symbol.
-- Assumes nothing.
use Rattle.std.specs.Prelude.{Result, Ok, Err}
use Rattle.units.specs.declared.Refusal.{Refusal}
use mathlib.Core.Path.{◌≡◌, refl, sym, ap, ap₂, ◌∙◌}
use mathlib.Core.Logic.{◌↔◌, ◌⊎◌, ⊎_elim, dite}
use mathlib.Core.Bool.{Bool, true, false}
use mathlib.Core.List.{List}
use Prim.Native.Nat.{ℕ, ◌+◌, ◌-◌, ◌*◌, ◌%◌, ◌≤◌, ◌<◌, min}
use native.Mathlib.Decide.{dec_lt}
use native.Mathlib.Omega.{arith}
use lib.Dec.{eqb}
use lib.ListN.{length, get_or, drop}
use lib.Seq.{get_or-drop, get_or-take, ext_get_or}
use Rattle.units.specs.Writing.{written}
use Rattle.units.proofs.Writing.{written_length, written_below, written_at, written_above}
use Rattle.signature.specs.Differences.{differing}
use Rattle.signature.specs.Kinds.{wide}
use Rattle.signature.specs.Objects.{Octets, symbol, symbols}
use Rattle.signature.specs.Operations.{own}
use Rattle.signature.proofs.EveryKind.{wide_sound}
use Rattle.map.specs.Buckets.{page_at}
use Rattle.map.specs.Reading.{entry_at}
use Rattle.map.specs.declared.Entry.{Entry}
use Rattle.map.specs.declared.Header.{Header}
use Rattle.map.proofs.Contents.{Sized}
use Rattle.map.proofs.Holding.{holds_header, holds_sized}
use Rattle.map.proofs.MadeMaps.{n_most, page_most}
use Rattle.map.proofs.Octets.{page_octets}
use Rattle.backup.specs.Backups.{same, agrees}
use Rattle.backup.proofs.Bounds.{page_starts}
use Rattle.backup.proofs.Opened.{Usable, holds_usable}
use Rattle.backup.proofs.Pages.{page_length, page_here}
use Rattle.backup.proofs.Sameness.{is_agrees}
use Rattle.repair.specs.Changes.{Tells, changed, fits}
use Rattle.repair.specs.Repairs.{Outcome, change_of, mended, page_left, outcome_of, page_tests, image_left, unless, open_repair, repairing}
use Rattle.repair.specs.declared.Change.{Change}
use Rattle.repair.specs.declared.Repair.{Repair}
use Rattle.repair.specs.declared.Repair.TheVariants.{Whole, Repaired, Beyond}
use Rattle.repair.proofs.Changed.{changed_length, changed_below, changed_above, low_byte}
use Rattle.repair.proofs.Finding.{put_found}
use Rattle.repair.proofs.Mending.{ChangeOf, mended_whole, mended_else, mended_change, open_mends}
use Rattle.repair.proofs.Naming.{Fitting, fitting, one_change, value_below}
use Rattle.repaired.specs.Damage.{Open, Intact, Repairable, at, OnlyThere}
use Rattle.repaired.proofs.Restoring.{Restored, one_damaged, more_beyond, another}

-- what was found by a repair that is not refused
found : Result Repair Refusal → Repair
found (Ok answer) = answer
found (Err r) = Beyond

module _ (h : Header) (image map : List ℕ) (k : ℕ) (o : Open h image map k) where
  abbrev page : List ℕ
  page = page_at h.page.count image k

  abbrev entry : Entry
  entry = entry_at h.n map k

  sized : Sized h
  sized = holds_sized map h o.holds

  size : length page ≡ min h.page.count (length image - k * h.page.count)
  size = page_length h.page.count image k

  starts : k * h.page.count < length image
  starts = omega (arith, page_starts h sized k o.inside, o.long)

  four : h.n ≤ 4
  four = n_most h.n sized.n_fits

  short : symbols 2 page ≤ 65534
  short = omega (arith, page_most h.page.count sized.page_fits, size)

  tells : Tells wide entry.signature page
  unfolding entry_at
  tells = record { some = o.two; four = four; short = short }

  octets : Octets page
  octets = page_octets h.page.count image k o.octets

  -- nothing refuses it: the page's own answer, and the image with the page as that leaves it
  pub answers : repairing image map k ≡ outcome_of (Ok (mended entry page)) (image_left h (mended entry page) image k)
  unfolding repairing open_repair
  answers =
      let u : Usable (length image) (length image) map h = holds_usable (length image) (length image) map h o.holds o.long o.long in
      ap₂ (λ v (g : Header). unless v g image map k) (u.rest (λ g. page_tests g k)) (holds_header map h o.holds) ∙ open_mends h image map k o.inside o.two

  abbrev start : ℕ
  start = k * h.page.count

  ends : start + length page ≤ length image
  ends = omega (arith, starts, size)

  -- ---- the image with another page there, byte by byte

  module _ (new : List ℕ) (as_long : length new ≡ length page) where
    fits_there : start + length new ≤ length image
    fits_there = omega (arith, ends)

    new_length : length (written image start new) ≡ length image
    new_length = written_length image start new fits_there

    -- a byte that the page has still, or that it never had
    byte_stays : (b : ℕ) → ((i : ℕ) → b ≡ start + i → i < length page → get_or new i 0 ≡ get_or page i 0) → get_or (written image start new) b 0 ≡ get_or image b 0
    unfolding page_at
    byte_stays b still =
        dite (dec_lt b start)
        (λ (before : b < start). written_below image start new fits_there b before)
        (λ from.
        dite (dec_lt b (start + length page))
        (λ (within : b < start + length page).
        let place : b ≡ start + (b - start) = omega arith in
        let there : b - start < length page = omega arith in
        ap (λ (n : ℕ). get_or (written image start new) n 0) place
        ∙ written_at image start new fits_there (b - start) (omega arith)
        ∙ still (b - start) place there
        ∙ get_or-take h.page.count (drop start image) (b - start) 0 (omega (arith, size))
        ∙ get_or-drop start image (b - start) 0
        ∙ ap (λ (n : ℕ). get_or image n 0) (sym place))
        (λ past. written_above image start new fits_there b (omega arith)))

  -- a page put back as it was leaves the image
  back : written image start page ≡ image
  back = ext_get_or 0 (written image start page) image (new_length page refl) (λ b below. byte_stays page refl b (λ i place inside. refl))

  unchanged : (r : Repair) → page_left r page ≡ page → mended entry page ≡ r → repairing image map k ≡ outcome_of (Ok r) image
  unfolding image_left
  unchanged r left is =
      answers ∙ ap (λ (a : Repair). outcome_of (Ok a) (image_left h a image k)) is ∙ ap (outcome_of (Ok r)) (ap (written image start) left ∙ back)

  -- ---- a whole page stays

  pub whole_stays : agrees h (entry_at h.n map) image k ≡ true → repairing image map k ≡ outcome_of (Ok Whole) image
  unfolding agrees page_left entry_at
  whole_stays so = unchanged Whole refl (mended_whole entry page so)

  -- ---- what is beyond stays

  pub beyond_stays : (repairing image map k).answer ≡ Ok Beyond → repairing image map k ≡ outcome_of (Ok Beyond) image
  unfolding page_left found
  beyond_stays e = unchanged Beyond refl (ap found (sym (ap (λ (q : Outcome). q.answer) answers) ∙ e))

  -- ---- a repair

  module _ (c : Change) (is : (repairing image map k).answer ≡ Ok (Repaired c)) where
    named : mended entry page ≡ Repaired c
    unfolding found
    named = ap found (sym (ap (λ (q : Outcome). q.answer) answers) ∙ is)

    by : ChangeOf entry.signature page c
    by = mended_change entry page c named

    abbrev after : List ℕ
    after = changed wide page c.position.count c.new

    after_long : length after ≡ length page
    after_long = changed_length wide wide_sound page c.position.count c.new by.inside

    image_after : (repairing image map k).image ≡ written image start after
    unfolding image_left page_left
    image_after = ap (λ (q : Outcome). q.image) answers ∙ ap (λ (a : Repair). image_left h a image k) named

    -- the page is then the changed one
    pub page_after : page_at h.page.count (repairing image map k).image k ≡ after
    page_after =
        ap (λ (l : List ℕ). page_at h.page.count l k) image_after
        ∙ page_here h.page.count image after k (omega (arith, starts)) (after_long ∙ size)

    -- and has its entry's signature
    pub repaired_signs : own wide h.n (page_at h.page.count (repairing image map k).image k) ≡ entry.signature
    unfolding entry_at
    repaired_signs = ap (own wide h.n) page_after ∙ (fitting wide entry.signature page _ _ by.fitted).gives

    pub repaired_agrees : agrees h (entry_at h.n map) (repairing image map k).image k ≡ true
    repaired_agrees = is_agrees h (entry_at h.n map) (repairing image map k).image k repaired_signs

    -- no byte outside the symbol changed
    pub repaired_only_there : OnlyThere h k c.position.count image (repairing image map k).image
    repaired_only_there = (
      ap length image_after ∙ new_length after after_long,
      λ b outside. ap (λ (l : List ℕ). get_or l b 0) image_after ∙ byte_stays after after_long b (λ i place inside. still b i place outside),
    )
      where
        still : (b i : ℕ) → b ≡ start + i → (b < at h k c.position.count) ⊎ (at h k c.position.count + 2 ≤ b) → get_or after i 0 ≡ get_or page i 0
        still b i place outside =
            ⊎_elim
            (λ (below : b < at h k c.position.count). changed_below wide wide_sound page c.position.count c.new by.inside i (omega arith))
            (λ (above : at h k c.position.count + 2 ≤ b). changed_above wide wide_sound page c.position.count c.new by.inside i (omega arith))
            outside

    -- what it tells: the symbol that stood there, and the mark exactly with n = 2
    pub repaired_tells : (c.old ≡ symbol 2 page c.position.count) × (c.marked ≡ eqb h.n 2)
    unfolding entry_at
    repaired_tells = (ap (λ (x : Change). x.old) by.is, ap (λ (x : Change). x.marked) by.is)

    -- the byte that completes an odd page stays zero
    pub completing_zero : length page ≡ c.position.count * 2 + 1 → c.new < 256
    completing_zero odd =
        let held : _ = (fitting wide entry.signature page _ _ by.fitted).holds in
        let low : symbol 2 after c.position.count ≡ c.new % 256 = low_byte page c.position.count c.new by.inside (omega arith) in
        omega (arith, held, low)

  -- ---- it repairs exactly when the signature is wrong and a change of one symbol gives the entry's

  pub repairs_exactly : ((c : Change) × ((repairing image map k).answer ≡ Ok (Repaired c))) ↔ ((agrees h (entry_at h.n map) image k ≡ false) × Repairable h image map k)
  unfolding agrees entry_at
  repairs_exactly = (there, back_again)
    where
      wrong : (b : Bool) (c : Change) → same (own wide h.n page) entry.signature ≡ b → mended entry page ≡ Repaired c → b ≡ false
      wrong true c so e = let z : ◌≡◌ {A = Repair} Whole (Repaired c) = sym (mended_whole entry page so) ∙ e in let no : ◌≡◌ {A = ℕ} 0 1 = cc in absurd (omega arith)
      wrong false c so e = refl

      there : ((c : Change) × ((repairing image map k).answer ≡ Ok (Repaired c))) → (agrees h (entry_at h.n map) image k ≡ false) × Repairable h image map k
      there (c, is) = (wrong _ c refl (named c is), (c.position.count, c.new, (by c is).inside, (by c is).fitted))

      back_again : (agrees h (entry_at h.n map) image k ≡ false) × Repairable h image map k → (c : Change) × ((repairing image map k).answer ≡ Ok (Repaired c))
      back_again (so, (i, x, inside, e)) =
          let f : Fitting wide entry.signature page i x = fitting wide entry.signature page i x e in (
            change_of h.n page i x,
            ap (λ (q : Outcome). q.answer) answers
                ∙ ap Ok
                (mended_else entry page so
                ∙ put_found entry.signature page i x inside (value_below wide wide_sound entry.signature page octets tells so i x inside f) e
                (λ j y hj e'. one_change wide wide_sound entry.signature page octets tells so j y i x hj inside e' e)),
          )

  -- and there is only one such change
  pub only_change : agrees h (entry_at h.n map) image k ≡ false → (i x j y : ℕ) → i < symbols 2 page → j < symbols 2 page
      → fits wide entry.signature page i x ≡ true → fits wide entry.signature page j y ≡ true → (i ≡ j) × (x ≡ y)
  unfolding agrees entry_at
  only_change so = one_change wide wide_sound entry.signature page octets tells so

  -- ---- with an intact entry

  module _ (before : List ℕ) (t : Intact h image map k before) where
    -- one damaged symbol is restored, wherever it is
    pub one_restored : differing 2 page before ≡ 1
        → ((c : Change) × ((repairing image map k).answer ≡ Ok (Repaired c))) × (page_at h.page.count (repairing image map k).image k ≡ before)
    unfolding entry_at
    one_restored one =
        let r : Restored entry.signature page before octets t.octets t.as_long tells t.entry =
        one_damaged entry.signature page before octets t.octets t.as_long tells t.entry one in
        let so : same (own wide h.n page) entry.signature ≡ false =
        another entry.signature page before octets t.octets t.as_long tells t.entry (omega arith) (omega (arith, o.two)) in
        let c : Change = change_of h.n page r.position (symbol 2 before r.position) in
        let is : (repairing image map k).answer ≡ Ok (Repaired c) = ap (λ (q : Outcome). q.answer) answers ∙ ap Ok (mended_else entry page so ∙ r.answer) in
        ((c, is), page_after c is ∙ r.page_is)

    -- and two or more, fewer than n, are beyond: two with n of 3 or 4
    pub more_damaged : 2 ≤ differing 2 page before → differing 2 page before < h.n → repairing image map k ≡ outcome_of (Ok Beyond) image
    unfolding entry_at page_left
    more_damaged some few =
        let so : same (own wide h.n page) entry.signature ≡ false =
        another entry.signature page before octets t.octets t.as_long tells t.entry (omega arith) (omega arith) in
        unchanged Beyond refl (mended_else entry page so ∙ more_beyond entry.signature page before octets t.octets t.as_long tells t.entry some few)
