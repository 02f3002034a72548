-- `load::load_page` meets its contract: the page where it opened, and else an empty part.
-- Assumes nothing.
use mathlib.Core.Path.{◌≡◌, sym, ap, ap₂, ◌∙◌}
use Rattle.units.specs.Refusals.{Verdict}
use Rattle.map.specs.Buckets.{page_at}
use Rattle.map.specs.Reading.{header_of}
use Rattle.map.specs.declared.Header.{Header}
use Rattle.backup.proofs.Opened.{opened_open, opened_refused}
use Rattle.load.specs.Loads.{asking, loaded_page, part_unless}
use Rattle.load.proofs.load_page.Goals as goal
use Rattle.units.specs.Refusals.{allowed}

pub returns-in_default : goal.returns-in_default
unfolding loaded_page
returns-in_default c =
    let open-page : _ = c.open_page in
    let args : _ = c.args in
    sym (ap (λ (v : Verdict). part_unless v (page_at (header_of args.map.now).page.count args.image.now args.k))
    (opened_refused (asking args.image.now args.map.now args.k) (header_of args.map.now) c.in_default.field-0
    (sym open-page.ensures ∙ c.in_default.is)))

pub returns : goal.returns
unfolding loaded_page
returns c =
    let open-page : _ = c.open_page in
    let args : _ = c.args in
    let both : (asking args.image.now args.map.now args.k ≡ allowed) × (header_of args.map.now ≡ c.in-Ok.h) =
    opened_open _ _ _ (sym open-page.ensures ∙ c.in-Ok.is) in
    c.page_at.ensures ∙ sym (ap₂ (λ (v : Verdict) (g : Header). part_unless v (page_at g.page.count args.image.now args.k)) both.0 both.1)
