-- `store::Open::store` meets its contract. The invariant: the pages before the place are through, and those written are listed.
-- Assumes nothing.
use Prim.Native.Nat.{◌-◌}
use Rattle.map.specs.Files.{pages}
use Rattle.store.specs.Opens.{IsAsOpened}
use Rattle.store.proofs.Underway.{Through, Noted}
use Rattle.store.proofs.Open.store.Given as goal

abbrev pub invariant-loop-answer : goal.invariant-loop-answer
invariant-loop-answer l =
    let old : _ = l.initial.self in
    IsAsOpened old l.self
    × Through old.h old.table.now old.image.now old.map.now l.place.page l.self.image.now l.self.map.now
    × Noted old.h old.table.now old.map.now l.initial.list l.place.page l.list l.found

abbrev pub decreases-loop-answer : goal.decreases-loop-answer
decreases-loop-answer l =
    pages l.initial.self.h - l.place.page
