-- `repair::repair_on` meets its contract: after its two tests the page is lent, mended, and goes back where it stood.
-- Assumes nothing.
use Rattle.std.specs.Prelude.{Ok}
use mathlib.Core.Path.{◌≡◌, sym, ap, ap₂, ◌∙◌}
use mathlib.Core.List.{List}
use Prim.Native.Nat.{ℕ, ◌*◌, ◌≤◌}
use native.Mathlib.Omega.{arith}
use Rattle.units.specs.Writing.{written}
use Rattle.map.specs.Buckets.{page_at}
use Rattle.map.specs.Files.{pages}
use Rattle.map.specs.Reading.{entry_at}
use Rattle.map.specs.declared.Entry.{Entry}
use Rattle.repair.specs.Repairs.{mended, page_left, outcome_of, image_left}
use Rattle.repair.specs.declared.Repair.{Repair}
use Rattle.repair.proofs.Lending.{Lent, lent_inside, lent_four, lent_page, lent_short, put_back}
use Rattle.repair.proofs.Mending.{open_past, open_mends}
use Rattle.repair.proofs.repair_on.Goals as goal

pub returns-then-k-pages : goal.returns-then-k-pages
returns-then-k-pages c =
    let args : _ = c.args in
    let past : pages args.h ≤ args.k = omega (arith, c.pages.ensures) in
    sym (open_past args.h args.image.now args.map.now args.k past)

pub slice_bounds-mend-end : goal.slice_bounds-mend-end
slice_bounds-mend-end c =
    let lent : Lent c.args.h c.args.image.now c.args.map.now c.args.k c.page_at.result.now =
    record { holds = c.requires.0; long = c.requires.1; inside = omega (arith, c.pages.ensures, c.if-k-pages.false); is = c.page_at.ensures } in
    lent_inside lent

pub mend-requires : goal.mend-requires
unfolding entry_at
mend-requires c =
    let lent : Lent c.args.h c.args.image.now c.args.map.now c.args.k c.page_at.result.now =
    record { holds = c.requires.0; long = c.requires.1; inside = omega (arith, c.pages.ensures, c.if-k-pages.false); is = c.page_at.ensures } in
    let n : _ = ap (λ (e : Entry). e.signature.n) c.entry_at-entry.ensures in
    record { some = omega (arith, n); four = omega (arith, n, lent_four lent); short = lent_short lent }

pub returns : goal.returns
unfolding image_left
returns c =
    let args : _ = c.args in
    let image : List ℕ = args.image.now in
    let mend : _ = c.mend in
    let lent : Lent c.args.h c.args.image.now c.args.map.now c.args.k c.page_at.result.now =
    record { holds = c.requires.0; long = c.requires.1; inside = omega (arith, c.pages.ensures, c.if-k-pages.false); is = c.page_at.ensures } in
    let answer : mend.result ≡ mended (entry_at args.h.n args.map.now args.k) (page_at args.h.page.count image args.k) =
    mend.ensures.0 ∙ ap₂ mended c.entry_at-entry.ensures (lent_page lent) in
    ap (outcome_of (Ok mend.result))
    (put_back lent mend.new.page mend.auto.page ∙ ap (written image (args.k * args.h.page.count)) (mend.ensures.1 ∙ ap (page_left mend.result) (lent_page lent)))
    ∙ ap (λ (r : Repair). outcome_of (Ok r) (image_left args.h r image args.k)) answer
    ∙ sym (open_mends args.h image args.map.now args.k lent.inside (omega arith))
