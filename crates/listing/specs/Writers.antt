-- Texts put into an output one after the other.
use Rattle.std.specs.Prelude.{◌≡◌, List, ℕ, ◌+◌, ◌≤◌, length}
use Rattle.units.specs.Writing.{put_of, put}
use Rattle.listing.specs.declared.Writer.{Writer}

-- room for a text behind what is written
abbrev pub HasRoom : List ℕ → Writer → Type 0
HasRoom text w = w.at + length text ≤ length w.output.now

-- the text is put behind what was written, in the same output
abbrev pub Puts : List ℕ → Writer → Writer → Type 0
Puts text old new = (put_of new.output.now new.at ≡ put old.output.now old.at text) × (new.output.ghost_name ≡ old.output.ghost_name)
