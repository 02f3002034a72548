-- `load::Open::lowest_damaged` meets its contract. The invariant: the first damaged page of those left is the first of all.
-- Assumes nothing.
use mathlib.Core.Path.{◌≡◌, sym, ap, ◌∙◌}
use mathlib.Core.Bool.{true, false, not}
use native.Mathlib.Omega.{arith}
use Rattle.units.proofs.First.{upward_finds, upward_goes_on, upward_ends}
use Rattle.map.specs.Files.{pages}
use Rattle.load.specs.declared.Open.{Open}
use Rattle.load.specs.Loads.{damaged}
use Rattle.load.proofs.Open.lowest_damaged.Goals as goal

pub returns-then-not-whole : goal.returns-then-not-whole
returns-then-not-whole c =
    let o : Open = c.args.self.now in
    let at : _ = c.loop-k in
    let bad : damaged o.h o.image.now o.map.now at.k ≡ true = ap not (sym c.whole.ensures ∙ c.if-not-whole.true) in
    upward_finds _ (pages o.h) at.k (omega (arith, c.pages-count.ensures)) at.invariant bad

pub loop-k-preserved : goal.loop-k-preserved
loop-k-preserved c =
    let o : Open = c.args.self.now in
    let at : _ = c.loop-k in
    let good : damaged o.h o.image.now o.map.now at.k ≡ false = ap not (sym c.whole.ensures ∙ c.if-not-whole.false) in
    upward_goes_on _ (pages o.h) at.k (omega (arith, c.pages-count.ensures)) at.invariant good

pub returns : goal.returns
returns c = upward_ends _ (pages c.args.self.now.h) c.loop-k.k (omega (arith, c.pages-count.ensures)) c.loop-k.invariant
