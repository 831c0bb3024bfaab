-- The lines of a script.
use Rattle.std.specs.Prelude.{ℕ, Bool, true, cond, ◌&&◌, List, [], ◌∷◌, Some, None, Ok, Err, codes, Option, Result, ◌==◌, nat_lt}
use Rattle.lines.specs.declared.fault.Fault.{Fault}
use Rattle.lines.specs.declared.fault.Fault.TheVariants.{NotAscii}
use Rattle.lines.specs.declared.line.Line.{Line}
use Rattle.lines.specs.declared.line.Line.TheVariants.{Skipped, Expectation, Command}
use Rattle.lines.specs.Texts.{behind}

pub data Kind : Type 0 where
  skipped : Kind
  expectation : List ℕ → Kind
  command : List ℕ → Kind

abbrev pub told_line : Line → Kind
told_line Skipped = skipped
told_line (Expectation text) = expectation text.now
told_line (Command text) = command text.now

-- an expectation, if it is one, or else a command
abbrev pub expected : List ℕ → Option (List ℕ) → Kind
expected text None = command text
expected text (Some rest) = expectation rest

-- An empty line and one that begins with # are skipped, and `= TEXT` expects TEXT.
abbrev pub kind_of : List ℕ → Kind
kind_of [] = skipped
kind_of (c ∷ cs) = cond (c == 35) skipped (expected (c ∷ cs) (behind (codes "= ") (c ∷ cs)))

-- every byte is ASCII
abbrev pub ascii : List ℕ → Bool
ascii [] = true
ascii (b ∷ bs) = nat_lt b 128 && ascii bs

abbrev pub line_of : List ℕ → Result Kind Fault
line_of bytes = cond (ascii bytes) (Ok (kind_of bytes)) (Err NotAscii)
