-- A store taken a page at a time: the place that a step hands back is handed in to the next.
use Rattle.std.specs.Prelude.{List, [], ◌∷◌, ◌++◌, ◌≡◌, ℕ, zero, suc, length, Result, Ok, Err}
use Rattle.units.specs.Writing.{written}
use Rattle.units.specs.declared.Refusal.{Refusal}
use Rattle.store.specs.Steps.{Stepped, stepping}
use Rattle.store.specs.Stores.{Stored}
use Rattle.store.specs.declared.Answer.{Answer}
use Rattle.store.specs.declared.Answer.TheVariants.{Kept, Written, Finished}
use Rattle.store.specs.declared.Place.{Place}

pub record Walk : Type 0 where
  pub place : Place
  pub image : List ℕ
  pub map : List ℕ
  -- of the pages that were written
  pub numbers : List ℕ

abbrev pub written_by : Result Answer Refusal → List ℕ
written_by (Ok (Kept k)) = []
written_by (Ok (Written k)) = k ∷ []
written_by (Ok Finished) = []
written_by (Err r) = []

abbrev pub walk_to : Walk → Stepped → Walk
walk_to w s = record { place = s.next; image = s.image; map = s.map; numbers = w.numbers ++ written_by s.answer }

-- m steps
unfoldable pub walked : List ℕ → Walk → ℕ → Walk
walked table w zero = w
walked table w (suc m) = walk_to (walked table w m) (stepping table (walked table w m).image (walked table w m).map (walked table w m).place)

abbrev pub outset : List ℕ → List ℕ → Walk
outset image map = record { place = record { page = 0 }; image = image; map = map; numbers = [] }

-- what the whole store leaves, the walk has left when its next step says finished
pub record Same (w : Walk) (table list : List ℕ) (count : ℕ) (whole : Stored) : Type 0 where
  pub image_same : w.image ≡ whole.image
  pub map_same : w.map ≡ whole.map
  pub list_same : whole.list ≡ written list 0 w.numbers
  pub count_same : count ≡ length w.numbers
  pub finished : (stepping table w.image w.map w.place).answer ≡ Ok Finished
