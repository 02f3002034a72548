-- A bucket is a list of bytes, cut into pages. The last one may be short, and of odd length.
use Rattle.std.specs.Prelude.{ℕ, ◌*◌, List, take, drop}

-- page k, counted from 0, by the bytes of a page
unfoldable pub page_at : ℕ → List ℕ → ℕ → List ℕ
page_at page bucket k = take page (drop (k * page) bucket)
