use Rattle.bank.proofs.Stores.{right_write}
use Rattle.pair.proofs.PairBank.write.Goals as goal

pub returns-in-Right-clause-after : goal.returns-in-Right-clause-after
returns-in-Right-clause-after g c =
    let l = g.L.Bank.meaning c.args.self.now.left in
    let r = g.R.Bank.meaning c.args.self.now.right in
    let placed = rw c.in-Right.is at c.in_ok-side.ensures in
    right_write l r c.args.address.drive c.args.address.sector c.args.bytes.now c.in_ok-sized.ensures placed.0 (g.R.Bank.meaning c.write-in-Right.new.self) placed.1 (rw placed.2 at c.write-in-Right.ensures.after)
