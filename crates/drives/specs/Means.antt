-- What the drives of this crate mean as banks, when they stand, and that they are then lawful.
use Rattle.std.proofs.Common.{arith}
use Rattle.bank.specs.Meaning.{Meaning, Lawful}
use Rattle.bank.specs.Shapes.{one_drive}
use Rattle.bank.proofs.Sectors.{cut_sector, filled_sector}
use Rattle.bank.proofs.Shapes.{one_drive_lawful}
use Rattle.drives.specs.Disks.{memory, rom, Bytes}
use Rattle.drives.specs.declared.memory.Memory.{Memory}
use Rattle.drives.specs.declared.rom.Rom.{Rom}

abbrev pub memory_means : Memory → Meaning
memory_means m = one_drive (memory m.bytes.now m.unreadable.now m.unwritable.now)

-- what a memory drive works over is bytes
abbrev pub MemoryStands : Memory → Type 0
MemoryStands m = Bytes m.bytes.now

pub memory_lawful : (m : Memory) → MemoryStands m → Lawful (memory_means m)
memory_lawful m small =
    one_drive_lawful (memory m.bytes.now m.unreadable.now m.unwritable.now) (omega arith) (λ s h. cut_sector m.bytes.now s (omega arith) small)

abbrev pub rom_means : Rom → Meaning
rom_means r = one_drive (rom r.asked)

-- every ROM drive stands
abbrev pub RomStands : Rom → Type 0
RomStands r = Unit {0}

pub rom_lawful : (r : Rom) → RomStands r → Lawful (rom_means r)
rom_lawful r h = one_drive_lawful (rom r.asked) (omega arith) (λ s h. filled_sector s (omega arith))
