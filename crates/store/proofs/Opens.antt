-- A backup that was opened, as its methods hand it on, and what its caller's image and map hold then.
-- Assumes nothing.
use mathlib.Core.Path.{◌≡◌, ap₂, ◌∙◌}
use mathlib.Core.List.{List}
use Prim.Native.Nat.{ℕ}
use Rattle.units.specs.Naming.{Listed}
use Rattle.store.specs.Opens.{IsAsOpened}
use Rattle.store.specs.Steps.{Stepped, stepped_of, open_step}
use Rattle.store.specs.Stores.{Stored, stored_of}
use Rattle.store.specs.declared.Open.{Open}
use Rattle.store.specs.declared.Place.{Place}
use Rattle.store.specs.declared.Step.{Step}
use Rattle.store.proofs.Underway.{Ready}

-- a store may start from it
pub ready : (o : Open) → Ready o.h o.table.now o.image.now o.map.now
ready o =
    record {
      table_octets = o.table_octets;
      map_octets = o.map_octets;
      holds = o.holds;
      table_length = o.table_length;
      image_length = o.image_length;
    }

-- opened as before, twice
pub then_as : (old mid new : Open) → IsAsOpened old mid → IsAsOpened mid new → IsAsOpened old new
then_as old mid new one two = (two.0 ∙ one.0, two.1 ∙ one.1, two.2 ∙ one.2, two.3 ∙ one.3)

-- a step of the backup is one by the header and the table that it was opened with
pub stepped : (old mid : Open) (place : Place) → IsAsOpened old mid → {s : Step} {image map : List ℕ}
    → stepped_of s image map ≡ open_step mid.h mid.table.now mid.image.now mid.map.now place
    → stepped_of s image map ≡ open_step old.h old.table.now mid.image.now mid.map.now place
stepped old mid place same e = e ∙ ap₂ (λ h table. open_step h table mid.image.now mid.map.now place) same.0 same.1

-- the caller's image and map hold what those of the backup hold
pub stepped_by : (s : Step) (image map image' map' : List ℕ) → image' ≡ image → map' ≡ map → {after : Stepped} → stepped_of s image map ≡ after
    → stepped_of s image' map' ≡ after
stepped_by s image map image' map' image_is map_is e = ap₂ (stepped_of s) image_is map_is ∙ e

pub stored_by : (a : Listed) (image map list image' map' : List ℕ) → image' ≡ image → map' ≡ map → {after : Stored} → stored_of a image map list ≡ after
    → stored_of a image' map' list ≡ after
stored_by a image map list image' map' image_is map_is e = ap₂ (λ i m. stored_of a i m list) image_is map_is ∙ e
