use Rattle.std.proofs.Common.{arith}
use Rattle.std.proofs.lemmas.List.FromFn.{fill_by_all}
use Rattle.session.specs.Seed.{seed_byte}
use Rattle.session.proofs.seed.sow.Goals as goal

pub returns : goal.returns
returns c = fill_by_all (seed_byte c.args.seed) _ _ 0 (omega arith) (λ k h. c.loop-index.invariant k (omega arith))
