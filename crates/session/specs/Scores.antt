-- How often a thing went as it should, and how often not.
use Rattle.std.specs.Prelude.{Bool, true, false, ◌||◌, nat_lt}
use Rattle.lines.specs.Rest.{more}
use Rattle.session.specs.declared.tally.Score.{Score}

abbrev pub no_marks : Score
no_marks = record { passed = 0; failed = 0 }

-- one time more
abbrev pub marked : Bool → Score → Score
marked true s = record { passed = more s.passed; failed = s.failed }
marked false s = record { passed = s.passed; failed = more s.failed }

-- whether there was any
abbrev pub has_marks : Score → Bool
has_marks s = nat_lt 0 s.passed || nat_lt 0 s.failed
