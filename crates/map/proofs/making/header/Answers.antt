-- `map::making::header` meets its contract: the low bytes of three numbers, each after its tag and its length.
-- Assumes nothing.
use native.Mathlib.Nat.{div-div-eq-div-mul}
use Rattle.signature.specs.Objects.{low_bytes}
use Rattle.map.specs.Files.{tagged, header}
use Rattle.map.proofs.making.header.Goals as goal

pub returns : goal.returns
unfolding header tagged low_bytes
returns c =
    simp (c.to_le_bytes.ensures, c.to_le_bytes-2.ensures, c.to_le_bytes-3.ensures, div-div-eq-div-mul)
