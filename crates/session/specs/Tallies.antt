-- The counts of a script and the line that sums them up.
use Rattle.std.specs.Prelude.{ℕ, ◌+◌, Bool, cond, List, ◌++◌, codes, decimal}
use Rattle.session.specs.declared.tally.Tally.{Tally}
use Rattle.session.specs.Scores.{no_marks, marked, has_marks}

abbrev pub none_yet : Tally
none_yet = record { commands = no_marks; expectations = no_marks }

-- one command more, obeyed or refused
abbrev pub counted : Bool → Tally → Tally
counted obeyed t = record { commands = marked obeyed t.commands; expectations = t.expectations }

-- one expectation more, met or not
abbrev pub compared : Bool → Tally → Tally
compared met t = record { commands = t.commands; expectations = marked met t.expectations }

-- whether there were expectations
abbrev pub expects : Tally → Bool
expects t = has_marks t.expectations

-- the line, in which expectations are named where there were any
abbrev pub tally_text : Tally → List ℕ
tally_text t =
    cond (expects t)
    (decimal (t.commands.passed + t.commands.failed) ++ (codes " commands: " ++ (decimal t.commands.passed ++ (codes " ok, " ++ (decimal t.commands.failed ++ (codes " refused; " ++ (decimal t.expectations.passed ++ (codes " as expected, " ++ (decimal t.expectations.failed ++ codes " not")))))))))
    (decimal (t.commands.passed + t.commands.failed) ++ (codes " commands: " ++ (decimal t.commands.passed ++ (codes " ok, " ++ (decimal t.commands.failed ++ codes " refused")))))
