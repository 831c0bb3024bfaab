-- The commands that ask a bank, as the words of a line say them.
use Rattle.std.specs.Prelude.{ℕ, cond, List, Some, None, Ok, Err, codes, Option, Result}
use Rattle.std.specs.List.{slice_get}
use Rattle.std.specs.Str.{bytes_eq}
use Rattle.script.specs.declared.command.BankCommand.{BankCommand}
use Rattle.script.specs.declared.command.BankCommand.TheVariants.{Count, Length, Ends, Get, Put}
use Rattle.lines.specs.declared.fault.Fault.{Fault}
use Rattle.lines.specs.declared.fault.Fault.TheVariants.{MissingWord, UnknownCommand, NotBank}
use Rattle.lines.specs.declared.fault.Part.TheVariants.{Command, Bank, Seed}
use Rattle.script.specs.Words.{then, number_at, drive_at, address_at, end_at, size_at}

-- the bank's own word, 8
abbrev pub bank_by : Option (List ℕ) → Result (Unit {0}) Fault
bank_by None = Err (MissingWord Bank)
bank_by (Some word) = cond (bytes_eq word (codes "8")) (Ok tt) (Err NotBank)

abbrev pub bank_at : List (List ℕ) → ℕ → Result (Unit {0}) Fault
bank_at words at = bank_by (slice_get words at)

-- count 8
abbrev pub count_said : List (List ℕ) → Result BankCommand Fault
count_said words = then (bank_at words 1) (λ _. then (end_at words 2) (λ _. Ok Count))

-- length 8:N
abbrev pub length_said : List (List ℕ) → Result BankCommand Fault
length_said words = then (drive_at words 1) (λ drive. then (end_at words 2) (λ _. Ok (Length drive)))

-- ends 8:N SECTOR
abbrev pub ends_said : List (List ℕ) → Result BankCommand Fault
ends_said words = then (address_at words 1) (λ address. then (end_at words 3) (λ _. Ok (Ends address)))

-- get 8:N SECTOR [bytes N]
abbrev pub get_said : List (List ℕ) → Result BankCommand Fault
get_said words = then (address_at words 1) (λ address. then (size_at words 3) (λ size. Ok (Get address size)))

-- put 8:N SECTOR SEED [bytes N]
abbrev pub put_said : List (List ℕ) → Result BankCommand Fault
put_said words = then (address_at words 1) (λ address. then (number_at words 3 Seed) (λ seed. then (size_at words 4) (λ size. Ok (Put address seed size))))

-- A command is known by its first word.
abbrev pub named : List (List ℕ) → List ℕ → Result BankCommand Fault
named words name =
    cond (bytes_eq name (codes "count")) (count_said words) (
    cond (bytes_eq name (codes "length")) (length_said words) (
    cond (bytes_eq name (codes "ends")) (ends_said words) (
    cond (bytes_eq name (codes "get")) (get_said words) (
    cond (bytes_eq name (codes "put")) (put_said words) (Err UnknownCommand)))))

abbrev pub named_by : List (List ℕ) → Option (List ℕ) → Result BankCommand Fault
named_by words None = Err (MissingWord Command)
named_by words (Some name) = named words name

abbrev pub bank_said : List (List ℕ) → Result BankCommand Fault
bank_said words = named_by words (slice_get words 0)
