-- `repair::diagnose` meets its contract: a page with its entry's signature is whole, and else a change is sought.
-- Assumes nothing.
use mathlib.Core.Path.{◌≡◌, sym, ap, ◌∙◌}
use mathlib.Core.Bool.{true, false}
use Rattle.signature.specs.declared.Signature.{Signature}
use Rattle.backup.specs.Backups.{same}
use Rattle.repair.proofs.Mending.{mended_whole, mended_else}
use Rattle.repair.proofs.diagnose.Goals as goal

pub returns-then-same : goal.returns-then-same
returns-then-same c =
    let args : _ = c.args in
    let so : same c.own-own.result args.entry.signature ≡ true = sym c.same.ensures ∙ c.if-same.true in
    sym (mended_whole args.entry args.page.now (ap (λ (t : Signature). same t args.entry.signature) (sym c.own-own.ensures) ∙ so))

pub returns : goal.returns
returns c =
    let args : _ = c.args in
    let so : same c.own-own.result args.entry.signature ≡ false = sym c.same.ensures ∙ c.if-same.false in
    c.find.ensures ∙ sym (mended_else args.entry args.page.now (ap (λ (t : Signature). same t args.entry.signature) (sym c.own-own.ensures) ∙ so))
