-- `cotelark::cotelark_load_page` meets its contract: the page that opened starts within the image, and else the part is empty.
-- Assumes nothing.
use mathlib.Core.Path.{sym, ap, ap₂, subst, ◌∙◌}
use Prim.Native.Nat.{◌*◌, ◌<◌}
use native.Mathlib.Omega.{arith}
use lib.ListN.{length}
use Rattle.map.specs.Reading.{header_of}
use Rattle.map.specs.declared.Header.{Header}
use Rattle.backup.proofs.Opened.{opened_open, opened_refused}
use Rattle.load.specs.Loads.{asking}
use Rattle.load.proofs.Answers.{load_starts}
use Rattle.cotelark.specs.Replies.{asked, loaded_of}
use Rattle.cotelark.proofs.Parts.{part_refused, part_loaded}
use Rattle.cotelark.proofs.cotelark_load_page.Goals as goal

pub overflow_mul-start : goal.overflow_mul-start
overflow_mul-start c =
    let args : _ = c.args in
    let both : _ = opened_open _ _ _ (sym c.open_page.ensures ∙ c.in-Ok.is) in
    let starts : args.k * c.in-Ok.h.page.count < length args.image.now =
    subst (λ (h : Header). args.k * h.page.count < length args.image.now) both.1 (load_starts args.image.now args.map.now args.k both.0) in
    record { fits = omega arith }

pub returns-in-Err : goal.returns-in-Err
returns-in-Err c =
    let args : _ = c.args in
    let is : _ = opened_refused (asking args.image.now args.map.now args.k) _ _
    (sym c.open_page.ensures ∙ c.in-Err.is) in
    ap₂ loaded_of (c.refused.ensures ∙ sym (ap asked is)) (sym (part_refused args.image.now args.map.now args.k _ is))

pub returns-in-Ok : goal.returns-in-Ok
returns-in-Ok c =
    let args : _ = c.args in
    let both : _ = opened_open (asking args.image.now args.map.now args.k) (header_of args.map.now) _
    (sym c.open_page.ensures ∙ c.in-Ok.is) in
    ap₂ loaded_of (c.done.ensures ∙ sym (ap asked both.0))
    (sym (part_loaded args.image.now args.map.now args.k _ _ both.0 both.1 c.page_at.ensures))
