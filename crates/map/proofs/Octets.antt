-- A page of a bucket of octets holds octets.
-- Assumes nothing.
use mathlib.Core.List.{List}
use Prim.Native.Nat.{ℕ, ◌*◌}
use lib.ListN.{drop}
use Rattle.signature.specs.Objects.{Octets}
use Rattle.signature.proofs.Octets.{take_octets, drop_octets}
use Rattle.map.specs.Buckets.{page_at}

pub page_octets : (page : ℕ) (bucket : List ℕ) (k : ℕ) → Octets bucket → Octets (page_at page bucket k)
unfolding page_at
page_octets page bucket k octets = take_octets page (drop (k * page) bucket) (drop_octets (k * page) bucket octets)
