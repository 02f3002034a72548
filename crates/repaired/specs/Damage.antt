-- A page of a backup that may be repaired, the page that its entry was made of, and what a change of one symbol leaves alone.
use Rattle.std.specs.Prelude.{Ok}
use Rattle.std.specs.Prelude.{◌≡◌, ◌⊎◌, true, List, ℕ, ◌+◌, ◌*◌, ◌≤◌, ◌<◌, length, get_or}
use Rattle.signature.specs.Kinds.{wide}
use Rattle.signature.specs.Objects.{Octets, symbols}
use Rattle.signature.specs.Operations.{own}
use Rattle.map.specs.Buckets.{page_at}
use Rattle.map.specs.Files.{pages}
use Rattle.map.specs.Reading.{reading, entry_at}
use Rattle.map.specs.declared.Header.{Header}
use Rattle.repair.specs.Changes.{fits}

-- the map reads, is of the image's length, has page k, and tells a position
pub record Open (h : Header) (image map : List ℕ) (k : ℕ) : Type 0 where
  pub octets : Octets image
  pub holds : reading map ≡ Ok h
  pub long : length image ≡ h.bucket.count
  pub inside : k < pages h
  pub two : 2 ≤ h.n

-- `before` was page k, and the entry has its signature still
pub record Intact (h : Header) (image map : List ℕ) (k : ℕ) (before : List ℕ) : Type 0 where
  pub octets : Octets before
  pub as_long : length (page_at h.page.count image k) ≡ length before
  pub entry : (entry_at h.n map k).signature ≡ own wide h.n before

-- some change of one symbol gives page k its entry's signature
abbrev pub Repairable : Header → List ℕ → List ℕ → ℕ → Type 0
Repairable h image map k =
    (i : ℕ) × (x : ℕ) × (i < symbols 2 (page_at h.page.count image k)) × (fits wide (entry_at h.n map k).signature (page_at h.page.count image k) i x ≡ true)

-- the bytes of symbol i of page k are those from here on
abbrev pub at : Header → ℕ → ℕ → ℕ
at h k i = k * h.page.count + i * 2

-- no byte but those two is another
abbrev pub OnlyThere : Header → ℕ → ℕ → List ℕ → List ℕ → Type 0
OnlyThere h k i image after = (length after ≡ length image) × ((b : ℕ) → (b < at h k i) ⊎ (at h k i + 2 ≤ b) → get_or after b 0 ≡ get_or image b 0)
