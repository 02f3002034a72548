-- The sizes that are allowed.
use Rattle.std.specs.Prelude.{ℕ, ◌%◌, Bool, ◌&&◌, leb, eqb}

-- symbols of a signature
abbrev pub n_allowed : ℕ → Bool
n_allowed n = leb 1 n && leb n 4

-- bytes of a page
abbrev pub page_allowed : ℕ → Bool
page_allowed bytes = eqb (bytes % 2) 0 && leb 2 bytes && leb bytes 65536

-- symbols of an object that is signed, joined or edited
abbrev pub object_most : ℕ
object_most = 65534

abbrev pub object_allowed : ℕ → Bool
object_allowed symbols = leb symbols object_most

-- bytes and pages of a bucket
abbrev pub bucket_allowed : ℕ → ℕ → Bool
bucket_allowed bytes pages = leb bytes 16777216 && leb pages 4096

-- symbols of a caption field
abbrev pub caption_allowed : ℕ → Bool
caption_allowed symbols = leb symbols 32768
