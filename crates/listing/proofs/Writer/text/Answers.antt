-- `listing::Writer::text` meets its contract: the text is copied to its part of the output.
-- Assumes nothing.
use mathlib.Core.List.{List}
use mathlib.Core.Path.{refl}
use Prim.Native.Nat.{ℕ, ◌+◌}
use lib.ListN.{length}
use Rattle.listing.proofs.Writers.{part_puts}
use Rattle.listing.proofs.Writer.text.Goals as goal

pub returns : goal.returns
returns c =
    let text : List ℕ = c.args.text.now in
    let w : _ = c.args.self.now in
    (part_puts w.output.now w.at (w.at + length text) c.copy_from_slice.new.self text c.copy_from_slice.ensures.after refl, refl)
