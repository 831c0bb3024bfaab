-- What the places of a layout mean, and what a script's plan of a drive means.
use Rattle.std.specs.Prelude.{◌*◌, List, map, replicate, vec_items}
use Rattle.bank.specs.Meaning.{Meaning}
use Rattle.bank.specs.Absent.{maybe_means}
use Rattle.bank.specs.Shapes.{one_drive}
use Rattle.drives.specs.Disks as disks
use Rattle.script.specs.Drives.{Plan, memory, rom}
use Rattle.layout.specs.declared.layout.Layout.{Layout}
use Rattle.layout.specs.declared.place.Place.{Place}
use Rattle.layout.specs.declared.place.Place.TheVariants.{Memory, Rom}

abbrev pub place_means : Place → Meaning
place_means (Memory s) = one_drive (disks.memory (vec_items s.bytes) (vec_items s.unreadable) (vec_items s.unwritable))
place_means (Rom sectors) = one_drive (disks.rom sectors)

-- A memory drive that a script describes holds zeros at first.
abbrev pub plan_means : Plan → Meaning
plan_means (memory sectors unreadable unwritable) = one_drive (disks.memory (replicate (sectors * 512) 0) unreadable unwritable)
plan_means (rom sectors) = one_drive (disks.rom sectors)

-- the eight places of a layout, in their order
abbrev pub all_mean : Layout → List Meaning
all_mean l = map (maybe_means place_means) l.places
