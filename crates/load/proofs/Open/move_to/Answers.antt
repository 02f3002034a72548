-- `load::Open::move_to` meets its contract: nothing moves unless no page is damaged, and then all of the image.
-- Assumes nothing.
use Rattle.std.specs.Prelude.{Ok}
use mathlib.Core.Path.{◌≡◌, sym, ap, ◌∙◌}
use Rattle.units.proofs.First.{lowest_some, lowest_none}
use Prim.Native.Nat.{ℕ, ◌≤◌, ◌<◌}
use native.Mathlib.Omega.{arith}
use lib.ListN.{length}
use borrow.Author.Tests.{lt-ltb, le-ltb}
use Rattle.units.specs.Filling.{outcome_of}
use Rattle.units.proofs.Writing.{part_put_lem}
use Rattle.map.specs.Files.{pages}
use Rattle.load.specs.declared.Open.{Open}
use Rattle.load.specs.Loads.{lowest_damaged, open_load}
use Rattle.load.proofs.Open.move_to.Goals as goal
use Rattle.std.specs.Prelude.{Err}
use Rattle.units.specs.declared.Refusal.{Refusal}

pub returns-in-Some : goal.returns-in-Some
unfolding open_load
returns-in-Some c =
    let o : Open = c.args.self.now in
    let k : (c.in-Some.k ≡ lowest_damaged o.h o.image.now o.map.now) × _ = lowest_some _ (pages o.h) _ (sym c.lowest_damaged.ensures ∙ c.in-Some.is) in
    let below : lowest_damaged o.h o.image.now o.map.now < pages o.h = omega (arith, k.0, k.1) in
    simp (lt-ltb _ _ below) (ap (λ (i : ℕ). outcome_of (Err (Refusal.Damaged i)) c.args.table.now) k.0)

pub returns : goal.returns
unfolding open_load
returns c =
    let o : Open = c.args.self.now in
    let none : pages o.h ≤ lowest_damaged o.h o.image.now o.map.now = lowest_none _ (pages o.h) (sym c.lowest_damaged.ensures ∙ c.in_default.is) in
    simp (le-ltb _ _ none)
    (ap (outcome_of (Ok (record { count = length o.image.now }))) (c.put_part.ensures ∙ part_put_lem o.image.now c.args.table.now 0 (omega (arith, c.requires))))
