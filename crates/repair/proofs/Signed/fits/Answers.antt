-- `repair::Signed::fits` meets its contract: what does not stay does not fit, and else the edited signature decides.
-- Assumes nothing.
use mathlib.Core.Path.{sym, ap, ◌∙◌}
use Rattle.signature.specs.Kinds.{wide}
use Rattle.signature.specs.Objects.{low_bytes}
use Rattle.repair.proofs.Checking.{Edits, checked}
use Rattle.repair.proofs.Naming.{not_held}
use Rattle.repair.proofs.Signed.fits.Goals as goal

pub returns-then-not-stays : goal.returns-then-not-stays
returns-then-not-stays c =
    let args : _ = c.args in
    sym (not_held wide args.self.now.s args.self.now.page.now args.i.count args.x (sym c.stays.ensures ∙ c.if-not-stays.true))

pub returns : goal.returns
returns c =
    let edits : Edits c.args.self.now.s c.args.self.now.own c.args.self.now.page.now c.args.i.count c.args.x c.low_bytes-old.result c.low_bytes-new.result c.edit.result =
    record {
      octets = c.args.self.now.octets;
      tells = c.args.self.now.tells;
      signed = c.args.self.now.signed;
      inside = c.requires;
      stays = sym c.stays.ensures ∙ c.if-not-stays.false;
      old_is = c.low_bytes-old.ensures ∙ ap (low_bytes 2) c.symbol.ensures;
      new_is = c.low_bytes-new.ensures;
      edited = c.edit.ensures;
    } in
    c.same.ensures ∙ checked edits _ c.in-Ok.is
