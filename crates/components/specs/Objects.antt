-- An object is a list of bytes, and its symbols are numbers of `size` bytes each, low byte first. A last symbol that is cut off is completed by zeros.
use Rattle.std.specs.Prelude.{List, [], ◌∷◌, ℕ, zero, suc, ◌+◌, ◌*◌, ◌/◌, ◌%◌, ◌<◌, length, get_or}
use Rattle.units.specs.Counts.{symbols_in}

-- every number of the list is a byte's
abbrev pub Octets : List ℕ → Type 0
Octets bytes = (i : ℕ) → get_or bytes i 0 < 256

-- the number that `size` bytes make, low byte first, from `at` on; past the end they are zeros
unfoldable pub low_first : ℕ → List ℕ → ℕ → ℕ
low_first zero bytes at = 0
low_first (suc size) bytes at = get_or bytes at 0 + 256 * low_first size bytes (suc at)

-- and the other way round: x in `size` bytes
unfoldable pub low_bytes : ℕ → ℕ → List ℕ
low_bytes zero x = []
low_bytes (suc size) x = x % 256 ∷ low_bytes size (x / 256)

-- symbol i, counted from 0
unfoldable pub symbol : ℕ → List ℕ → ℕ → ℕ
symbol size bytes i = low_first size bytes (i * size)

-- how many there are
abbrev pub symbols : ℕ → List ℕ → ℕ
symbols size bytes = symbols_in size (length bytes)
