-- The answers of the code as the meaning has them: each case by its number and values.
use Rattle.std.specs.Prelude.{ℕ, Some, None, Ok, Err, Option, Result}
use Rattle.bank.specs.declared.cause.Cause.{Cause}
use Rattle.bank.specs.declared.cause.Cause.TheVariants.{NoDrive, PastEnd, Unreadable, Unwritable, Suspended, ErrorRow, FlakeyDown, WrongSize}
use Rattle.bank.specs.declared.source.Source.{Source}
use Rattle.bank.specs.declared.source.Source.TheVariants.{Zeros}
use Rattle.bank.specs.declared.source.Source.TheVariants as source
use Rattle.bank.specs.Meaning.{ReadEnd, cell, zeros, unread, at}

-- the number of each cause
abbrev pub number_of : Cause → ℕ
number_of NoDrive = 1
number_of PastEnd = 2
number_of Unreadable = 3
number_of Unwritable = 4
number_of Suspended = 5
number_of ErrorRow = 6
number_of FlakeyDown = 7
number_of WrongSize = 8

abbrev pub told_source : Source → ReadEnd
told_source (source.Cell a) = cell (at a.drive a.sector)
told_source Zeros = zeros

-- what a read or a question for a read end answered
abbrev pub told_read : Result Source Cause → ReadEnd
told_read (Ok s) = told_source s
told_read (Err c) = unread (number_of c)

-- what a write answered: its cause, if it was refused
abbrev pub told_write : Result (Unit {0}) Cause → Option ℕ
told_write (Ok u) = None
told_write (Err c) = Some (number_of c)
