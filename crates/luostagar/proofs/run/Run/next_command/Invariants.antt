use Rattle.std.proofs.Common.{◌≤◌}
use Rattle.lines.specs.Rest.{left}
use Rattle.luostagar.proofs.run.Run.next_command.Given as goal

abbrev pub invariant-loop-bytes : goal.invariant-loop-bytes
invariant-loop-bytes l = left l.self.lines ≤ left l.initial.self.lines

abbrev pub decreases-loop-bytes : goal.decreases-loop-bytes
decreases-loop-bytes l = left l.self.lines
