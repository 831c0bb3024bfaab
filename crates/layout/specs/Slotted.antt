-- What eight places for slots mean, in their order, and that all of them stand.
use Rattle.std.specs.Prelude.{List, map, Option}
use Rattle.std.specs.List.{AllByRecursion}
use Rattle.bank.specs.Absent.{maybe_means, MaybeStands}
use Rattle.bank.specs.Meaning.{Meaning}
use Rattle.layout.specs.declared.eight.Eight.{Eight}
use Rattle.layout.specs.declared.slot.Slot.{Slot}
use Rattle.layout.specs.Eights.{in_order}
use Rattle.layout.specs.Slots.{slot_means, SlotStands}

abbrev pub slots_mean : Eight (Option Slot) → List Meaning
slots_mean slots = map (maybe_means slot_means) (in_order slots)

abbrev pub SlotsStand : Eight (Option Slot) → Type 0
SlotsStand slots = AllByRecursion (MaybeStands SlotStands) (in_order slots)
