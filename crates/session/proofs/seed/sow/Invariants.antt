use Rattle.std.proofs.Common.{◌≡◌, ℕ, ◌<◌, get_or}
use Rattle.session.specs.Seed.{seed_byte}
use Rattle.session.proofs.seed.sow.Given as goal

abbrev pub invariant-loop-index : goal.invariant-loop-index
invariant-loop-index l = (k : ℕ) → k < l.index → get_or l.place k 0 ≡ seed_byte l.seed k
