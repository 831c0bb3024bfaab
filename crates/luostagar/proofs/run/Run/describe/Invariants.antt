use Rattle.lines.specs.Rest.{left}
use Rattle.luostagar.proofs.run.Run.describe.Given as goal

abbrev pub decreases-loop-command : goal.decreases-loop-command
decreases-loop-command l = left l.self.lines
