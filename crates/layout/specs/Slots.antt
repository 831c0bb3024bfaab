-- What a slot means: the bank of the drive in it.
use Rattle.bank.specs.Meaning.{Meaning, Lawful, Plainly}
use Rattle.drives.specs.Means.{memory_means, MemoryStands, memory_lawful, rom_means, RomStands, rom_lawful}
use Rattle.drives.specs.Plain.{memory_plain, rom_plain}
use Rattle.layout.specs.declared.slot.Slot.{Slot}
use Rattle.layout.specs.declared.slot.Slot.TheVariants.{Memory, Rom}

abbrev pub slot_means : Slot → Meaning
slot_means (Memory m) = memory_means m
slot_means (Rom r) = rom_means r

abbrev pub SlotStands : Slot → Type 0
SlotStands (Memory m) = MemoryStands m
SlotStands (Rom r) = RomStands r

pub slot_lawful : (s : Slot) → SlotStands s → Lawful (slot_means s)
slot_lawful (Memory m) h = memory_lawful m h
slot_lawful (Rom r) h = rom_lawful r h

pub slot_plain : (s : Slot) → Plainly (slot_means s)
slot_plain (Memory m) = memory_plain m
slot_plain (Rom r) = rom_plain r
