-- The map file as bytes, from its header and its entries by page number. An entry is its tag and its components.
use Rattle.std.specs.Prelude.{cond, List, ◌∷◌, ◌++◌, ℕ, ◌+◌, ◌*◌, leb, length}
use Rattle.units.specs.Counts.{pages_in}
use Rattle.units.specs.Writing.{written}
use Rattle.units.specs.Runs.{end_to_end}
use Rattle.signature.specs.Signatures.{handed}
use Rattle.signature.specs.Objects.{low_bytes}
use Rattle.map.specs.declared.Header.{Header}
use Rattle.map.specs.declared.Entry.{Entry}

abbrev pub pages : Header → ℕ
pages h = pages_in h.page.count h.bucket.count

-- tag, length, value
unfoldable pub tagged : ℕ → List ℕ → List ℕ
tagged tag value = tag ∷ (low_bytes 2 (length value) ++ value)

unfoldable pub header : Header → List ℕ
header h = tagged 1 (low_bytes 1 h.n) ++ (tagged 2 (low_bytes 4 h.page.count) ++ tagged 3 (low_bytes 4 h.bucket.count))

-- n components, s1 first
unfoldable pub components : ℕ → (ℕ → ℕ) → List ℕ
components n s = end_to_end (λ j. low_bytes 2 (s j)) 1 n

unfoldable pub entry : Entry → List ℕ
entry e = tagged e.tag (components e.signature.n (handed e.signature))

-- m entries, from page k on
abbrev pub entries : (ℕ → Entry) → ℕ → ℕ → List ℕ
entries e k m = end_to_end (λ i. entry (e i)) k m

unfoldable pub file : Header → (ℕ → Entry) → List ℕ
file h e = header h ++ entries e 0 (pages h)

-- ---- lengths and places

abbrev pub header_bytes : ℕ
header_bytes = 18

abbrev pub entry_bytes : ℕ → ℕ
entry_bytes n = 3 + 2 * n

-- where the entry of page k begins
abbrev pub place : ℕ → ℕ → ℕ
place n k = header_bytes + k * entry_bytes n

-- the length of a file, by its page count
abbrev pub file_bytes : ℕ → ℕ → ℕ
file_bytes n pages = place n pages

-- a map with the entry of page k written over; where it has no room for one, as it was
unfoldable pub entry_put : Entry → List ℕ → ℕ → List ℕ
entry_put e map k =
    cond (leb (place e.signature.n k + entry_bytes e.signature.n) (length map)) (written map (place e.signature.n k) (entry e)) map
