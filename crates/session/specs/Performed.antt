-- What a bank's meaning makes of a command.
use Rattle.std.specs.Prelude.{ℕ, List, [], length, replicate, Option}
use Rattle.std.specs.Option.{option_map}
use Rattle.bank.specs.Meaning.{Cell, Meaning, ReadEnd, read_due, write_due, cause_of, cells_of, filled}
use Rattle.bank.specs.Told.{number_of, told_read, told_write}
use Rattle.script.specs.declared.command.BankCommand.{BankCommand}
use Rattle.script.specs.declared.command.BankCommand.TheVariants.{Count, Length, Ends, Get, Put}
use Rattle.session.specs.declared.outcome.Outcome.{Outcome}
use Rattle.session.specs.declared.outcome.Outcome.TheVariants.{Attached, Counted, Measured, Ended, Got, Stored}
use Rattle.session.specs.Digest.{fnv}
use Rattle.session.specs.Seed.{sown}

-- the outcomes as the meaning has them
pub data Answer : Type 0 where
  attached : ℕ → Answer
  counted : ℕ → Answer
  measured : ℕ → Answer
  ended : ReadEnd → Option ℕ → Answer
  got : ReadEnd → ℕ → Answer
  stored : Option ℕ → Answer

abbrev pub told : Outcome → Answer
told (Attached drive) = attached drive
told (Counted drives) = counted drives
told (Measured sectors) = measured sectors
told (Ended read write) = ended (told_read read) (option_map number_of write)
told (Got from digest) = got (told_read from) digest
told (Stored answer) = stored (told_write answer)

-- what a buffer of so many bytes holds before a read: 0xAA throughout
abbrev pub blank_buffer : ℕ → List ℕ
blank_buffer size = replicate size 170

-- A read shows the whole buffer by its digest, whether it was filled or not.
abbrev pub got_into : Meaning → ℕ → ℕ → List ℕ → Answer
got_into m drive sector place = got (read_due m drive sector (length place)) (fnv (filled m (read_due m drive sector (length place)) place))

-- the answer that is due
abbrev pub due : Meaning → BankCommand → Answer
due m Count = counted m.drives
due m (Length drive) = measured (m.size drive)
due m (Ends a) = ended (m.reads a.drive a.sector) (cause_of (m.writes a.drive a.sector))
due m (Get a size) = got_into m a.drive a.sector (blank_buffer size)
due m (Put a seed size) = stored (cause_of (write_due m a.drive a.sector size))

-- the cells that a command writes, and what it writes into them
abbrev pub reached : Meaning → BankCommand → List Cell
reached m Count = []
reached m (Length drive) = []
reached m (Ends a) = []
reached m (Get a size) = []
reached m (Put a seed size) = cells_of (write_due m a.drive a.sector size)

abbrev pub carried : BankCommand → List ℕ
carried Count = []
carried (Length drive) = []
carried (Ends a) = []
carried (Get a size) = []
carried (Put a seed size) = sown seed size
