-- `listing::list` meets its contract: what was read says which listing it is.
-- Assumes nothing.
use Rattle.std.specs.Prelude.{Ok}
use mathlib.Core.Path.{◌≡◌, sym, ap, ◌∙◌}
use mathlib.Core.List.{List}
use Prim.Native.Nat.{ℕ}
use Rattle.map.specs.Files.{pages}
use Rattle.map.specs.Reading.{reading}
use Rattle.map.specs.Reading.{Reading}
use Rattle.map.proofs.Holding.{holds_sized}
use Rattle.map.proofs.Contents.{Sized}
use Rattle.map.proofs.MadeMaps.{n_most, pages_most}
use Rattle.listing.specs.Lines.{listed, listing, text_out}
use Rattle.listing.proofs.list.Goals as goal

pub list_held-requires : goal.list_held-requires
list_held-requires c =
    let bytes : List ℕ = c.args.map.now in
    let h : _ = c.in-Ok.h in
    let is : reading bytes ≡ Ok h = sym c.read.ensures ∙ c.in-Ok.is in
    let ok : Sized h = holds_sized bytes h is in
    (n_most h.n ok.n_fits, pages_most h.bucket.count (pages h) ok.bucket_fits)

pub returns-in-Err : goal.returns-in-Err
unfolding listing
returns-in-Err c =
    let args : _ = c.args in
    let read : _ = c.read in
    let list_refused : _ = c.list_refused in
    let bytes : List ℕ = args.map.now in
    list_refused.ensures ∙ ap (λ (r : Reading). text_out (listed bytes r) args.output.now) (sym c.in-Err.is ∙ read.ensures)

pub returns-in-Ok : goal.returns-in-Ok
unfolding listing
returns-in-Ok c =
    let args : _ = c.args in
    let read : _ = c.read in
    let list_held : _ = c.list_held in
    let bytes : List ℕ = args.map.now in
    list_held.ensures ∙ ap (λ (r : Reading). text_out (listed bytes r) args.output.now) (sym c.in-Ok.is ∙ read.ensures)
