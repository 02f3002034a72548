-- How counts turn into each other: bytes, symbols, pages, and an exponent of α. `size` is the number of bytes that a symbol has.
use Rattle.std.specs.Prelude.{ℕ, ◌+◌, ◌-◌, ◌*◌, ◌/◌, ◌%◌, ◌^◌, min}

-- rounded up: a part of a piece counts as a whole one
abbrev pub pieces : ℕ → ℕ → ℕ
pieces size bytes = (bytes + (size - 1)) / size

abbrev pub symbols_in : ℕ → ℕ → ℕ
symbols_in size bytes = pieces size bytes

-- pages of a bucket, by the bytes of a page
abbrev pub pages_in : ℕ → ℕ → ℕ
pages_in page bucket = pieces page bucket

-- cut off at the largest number that a machine word holds
abbrev pub bytes_in : ℕ → ℕ → ℕ
bytes_in size symbols = min (symbols * size) (2 ^ 64 - 1)

-- less the whole rounds of α, whose power 65,535 is 1
abbrev pub exponent_at : ℕ → ℕ → ℕ
exponent_at component position = component * position % 65535

-- what is missing to a whole round
abbrev pub exponent_back : ℕ → ℕ
exponent_back position = 65535 - position % 65535
