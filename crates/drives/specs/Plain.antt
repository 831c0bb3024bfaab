-- That each drive of this crate is a plain bank.
use Rattle.bank.specs.Meaning.{Plainly}
use Rattle.bank.proofs.Shapes.{one_drive_plain}
use Rattle.drives.specs.Disks.{memory, rom}
use Rattle.drives.specs.Means.{memory_means, rom_means}
use Rattle.drives.specs.declared.memory.Memory.{Memory}
use Rattle.drives.specs.declared.rom.Rom.{Rom}

pub memory_plain : (m : Memory) → Plainly (memory_means m)
memory_plain m = one_drive_plain (memory m.bytes.now m.unreadable.now m.unwritable.now)

pub rom_plain : (r : Rom) → Plainly (rom_means r)
rom_plain r = one_drive_plain (rom r.asked)
