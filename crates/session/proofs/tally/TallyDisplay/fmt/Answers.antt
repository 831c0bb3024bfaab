use Rattle.std.proofs.Common.{◌≡◌, ℕ, ◌+◌, true, ◌++◌, rules, append_assoc, refl, codes, decimal}
use Rattle.std.proofs.lemmas.Grind.{put_two}
use Rattle.session.specs.declared.tally.Tally.{Tally}
use Rattle.session.specs.Tallies.{expects, tally_text}
use Rattle.session.proofs.tally.TallyDisplay.fmt.Goals as goal

-- the counts of commands, and then those of expectations
two_parts : (t : Tally) (all : ℕ) → all ≡ t.commands.passed + t.commands.failed → true ≡ expects t
    → (decimal all ++ (codes " commands: " ++ (decimal t.commands.passed ++ (codes " ok, " ++ (decimal t.commands.failed ++ codes " refused")))))
    ++ (codes "; " ++ (decimal t.expectations.passed ++ (codes " as expected, " ++ (decimal t.expectations.failed ++ codes " not")))) ≡ tally_text t
two_parts t all sum some = rw (sum, ← some) (simp append_assoc refl)

pub returns-in_ok-write-2-clause-writes : goal.returns-in_ok-write-2-clause-writes
returns-in_ok-write-2-clause-writes g c plain ok =
    let commands = c.write.ensures.writes plain (search rules) in
    put_two _ _ c.write.new.self _ _ _ _ commands (c.write-then-has_marks.ensures.writes commands.plain (search rules)) (two_parts c.args.self.now _ (search rules) c.if-has_marks.ensures)
