-- A backup that was opened, with the table that it is to hold.
use Rattle.std.specs.Prelude.{◌≡◌}
use Rattle.store.specs.declared.Open.{Open}

-- it has the header and the table that it had, and the image and the map are where they were
abbrev pub IsAsOpened : Open → Open → Type 0
IsAsOpened old new =
    (new.h ≡ old.h) × (new.table.now ≡ old.table.now) × (new.image.ghost_name ≡ old.image.ghost_name) × (new.map.ghost_name ≡ old.map.ghost_name)
