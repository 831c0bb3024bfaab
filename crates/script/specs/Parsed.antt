-- A line's command, of whichever kind it is.
use Rattle.std.specs.Prelude.{◌≡◌, ℕ, cond, ◌⊎◌, List, Some, None, Ok, Err, codes, Option, Result}
use Rattle.std.specs.List.{slice_get}
use Rattle.std.specs.Str.{bytes_eq}
use Rattle.script.specs.declared.command.BankCommand.{BankCommand}
use Rattle.script.specs.declared.command.Command.{Command}
use Rattle.script.specs.declared.command.Command.TheVariants.{Drive, Bank}
use Rattle.lines.specs.declared.fault.Fault.{Fault}
use Rattle.lines.specs.declared.fault.Fault.TheVariants.{MissingWord, NoMemory}
use Rattle.lines.specs.declared.fault.Part.TheVariants as Part
use Rattle.script.specs.Commands.{bank_said}
use Rattle.script.specs.Drives.{Plan, told_drive, Read, memory_said, rom_said}
use Rattle.script.specs.Cuts.{Cut, solid}
use Rattle.script.specs.Words.{then}

pub data Told : Type 0 where
  drive : Plan → Told
  bank : BankCommand → Told

abbrev pub told_command : Command → Told
told_command (Drive it) = drive (told_drive it)
told_command (Bank it) = bank it

abbrev pub by_name : List (List ℕ) → Option (List ℕ) → Result Told Fault
by_name words None = Err (MissingWord Part.Command)
by_name words (Some name) =
    cond (bytes_eq name (codes "memory")) (then (memory_said words) (λ it. Ok (drive it))) (
    cond (bytes_eq name (codes "rom")) (then (rom_said words) (λ it. Ok (drive it))) (then (bank_said words) (λ it. Ok (bank it))))

-- Drives have names of their own, and every other command asks a bank.
abbrev pub command_said : List (List ℕ) → Result Told Fault
command_said words = by_name words (slice_get words 0)

-- The command that the words of a line say, of which none may be empty.
abbrev pub Parsed : List ℕ → Result Command Fault → Type 0
Parsed text r = (r ≡ Err NoMemory) ⊎ ((words : List (List ℕ)) × Cut text words × Read told_command (then (solid words) (λ _. command_said words)) r)
