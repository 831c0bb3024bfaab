use Rattle.std.proofs.Common.{sym}
use Rattle.bank.specs.Shapes.{one_drive}
use Rattle.bank.proofs.Dues.{write_sized}
use Rattle.bank.proofs.Shapes.{writable}
use Rattle.bank.proofs.Stores.{refused_write}
use Rattle.drives.specs.Means.{memory_means}
use Rattle.drives.specs.Disks.{memory}
use Rattle.drives.proofs.Written.{memory_stored, memory_bytes}
use Rattle.drives.proofs.memory.MemoryBank.write.Goals as goal

pub returns-in_err-writable-clause-after : goal.returns-in_err-writable-clause-after
returns-in_err-writable-clause-after c = (refused_write (memory_means c.args.self.now) c.args.address.drive c.args.address.sector c.args.bytes.now _ c.in_ok-sized.ensures c.in_err-writable.ensures).1

pub returns-clause-after : goal.returns-clause-after
returns-clause-after c =
    let m = c.args.self.now in
    let k = memory m.bytes.now m.unreadable.now m.unwritable.now in
    let f = writable k c.args.address.drive c.args.address.sector (sym c.in_ok-writable.ensures) in
    rw (write_sized (one_drive k) c.args.address.drive c.args.address.sector _ c.in_ok-sized.ensures, f.1) (memory_stored m.bytes.now m.unreadable.now m.unwritable.now _ _ _ _ f.0 c.in_ok-sized.ensures c.store.ensures)

pub returns-clause-kept : goal.returns-clause-kept
returns-clause-kept c stands =
    let m = c.args.self.now in
    let f = writable (memory m.bytes.now m.unreadable.now m.unwritable.now) c.args.address.drive c.args.address.sector (sym c.in_ok-writable.ensures) in
    memory_bytes m.bytes.now m.unreadable.now m.unwritable.now _ _ _ _ f.0 c.in_ok-sized.ensures c.store.ensures stands (λ k. (c.type_inv.bytes k).fits)
