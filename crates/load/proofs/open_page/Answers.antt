-- `load::open_page` meets its contract: each return is the definition at the tests that led there.
-- Assumes nothing.
use Rattle.std.proofs.lemmas.Result.{err_from_is_err_and}
use Rattle.std.specs.Prelude.{Ok, Err}
use mathlib.Core.Bool.{true, false}
use mathlib.Core.Path.{◌≡◌, sym, ap, ◌∙◌}
use Prim.Native.Nat.{◌≤◌, ◌<◌}
use native.Mathlib.Omega.{arith}
use borrow.Author.Tests.{le-leb, lt-leb}
use Rattle.units.specs.Refusals.{first}
use Rattle.units.specs.declared.Refusal.{Refusal}
use Rattle.map.specs.Files.{pages}
use Rattle.map.specs.Reading.{entry_at}
use Rattle.map.specs.declared.Header.{Header}
use Rattle.backup.specs.Backups.{agrees}
use Rattle.backup.specs.Openings.{opened}
use Rattle.backup.proofs.Opened.{refused_as, opened_as}
use Rattle.load.specs.Loads.{asking, page_tests}
use Rattle.load.proofs.open_page.Goals as goal

pub returns-in_err-h : goal.returns-in_err-h
unfolding asking
returns-in_err-h c =
    let args : _ = c.args in
    let p : _ = err_from_is_err_and c.from_residual.result c.from_residual.ensures.1 in
    p.1 ∙ ap Err p.2 ∙ sym (refused_as opened (λ g. page_tests g args.image.now args.map.now args.k) _ _ _ _ (sym c.«open».ensures ∙ c.in_err-h.was))

pub returns-then-k-pages : goal.returns-then-k-pages
unfolding asking
returns-then-k-pages c =
    let opens : _ = c.«open» in
    let args : _ = c.args in
    let h : Header = c.in_ok-h.h in
    let past : pages h ≤ args.k = omega (arith, c.pages.ensures) in
    let so : opened (first (page_tests h args.image.now args.map.now args.k)) h ≡ Err Refusal.PageNo = simp (le-leb _ _ past) in
    sym (opened_as opened (λ g. page_tests g args.image.now args.map.now args.k) _ _ _ _ (sym opens.ensures ∙ c.in_ok-h.was) ∙ so)

pub returns-then-not-whole : goal.returns-then-not-whole
unfolding asking
returns-then-not-whole c =
    let opens : _ = c.«open» in
    let counted : _ = c.pages in
    let args : _ = c.args in
    let h : Header = c.in_ok-h.h in
    let inside : args.k < pages h = omega (arith, counted.ensures, c.if-k-pages.false) in
    let bad : agrees h (entry_at h.n args.map.now) args.image.now args.k ≡ false = sym c.whole.ensures ∙ c.if-not-whole.true in
    let so : opened (first (page_tests h args.image.now args.map.now args.k)) h ≡ Err (Refusal.Damaged args.k) = simp (lt-leb _ _ inside, bad) in
    sym (opened_as opened (λ g. page_tests g args.image.now args.map.now args.k) _ _ _ _ (sym opens.ensures ∙ c.in_ok-h.was) ∙ so)

pub returns : goal.returns
unfolding asking
returns c =
    let opens : _ = c.«open» in
    let counted : _ = c.pages in
    let args : _ = c.args in
    let h : Header = c.in_ok-h.h in
    let inside : args.k < pages h = omega (arith, counted.ensures, c.if-k-pages.false) in
    let good : agrees h (entry_at h.n args.map.now) args.image.now args.k ≡ true = sym c.whole.ensures ∙ c.if-not-whole.false in
    let so : opened (first (page_tests h args.image.now args.map.now args.k)) h ≡ Ok h = simp (lt-leb _ _ inside, good) in
    sym (opened_as opened (λ g. page_tests g args.image.now args.map.now args.k) _ _ _ _ (sym opens.ensures ∙ c.in_ok-h.was) ∙ so)
