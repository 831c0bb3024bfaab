-- The words of a line by their places, each with the fault that is due where it is not what it should be.
use Rattle.std.specs.Prelude.{ℕ, ◌+◌, ◌^◌, cond, List, Some, None, Ok, Err, codes, Option, Result, nat_le, nat_lt}
use Rattle.std.specs.List.{slice_get}
use Rattle.std.specs.Option.{ok_or}
use Rattle.std.specs.Str.{bytes_eq}
use Rattle.bank.specs.declared.address.Address.{Address}
use Rattle.lines.specs.declared.fault.Fault.{Fault}
use Rattle.lines.specs.declared.fault.Fault.TheVariants.{MissingWord, ExtraWord, NotNumber, NotDrive, TooLarge}
use Rattle.lines.specs.declared.fault.Part.{Part}
use Rattle.lines.specs.declared.fault.Part.TheVariants.{Drive, Sector, Bytes}
use Rattle.lines.specs.Number.{number_in}
use Rattle.lines.specs.Texts.{behind, texts}
use Rattle.script.specs.declared.words.Words.{Words}

-- the words of a line that are not read yet
abbrev pub unread : Words → List (List ℕ)
unread words = texts words.left.now

-- One step after another: the first fault ends the line.
abbrev pub then : {X Y : Type 0} → Result X Fault → (X → Result Y Fault) → Result Y Fault
then (Ok x) next = next x
then (Err fault) next = Err fault

-- a word, of which a reading is asked
abbrev pub reading : {X : Type 0} → Part → Fault → (List ℕ → Option X) → Option (List ℕ) → Result X Fault
reading part fault read None = Err (MissingWord part)
reading part fault read (Some word) = ok_or (read word) fault

abbrev pub number_at : List (List ℕ) → ℕ → Part → Result ℕ Fault
number_at words at part = reading part (NotNumber part) number_in (slice_get words at)

-- no word at a place, and so none behind it
abbrev pub ended : Option (List ℕ) → Result (Unit {0}) Fault
ended None = Ok tt
ended (Some word) = Err ExtraWord

abbrev pub end_at : List (List ℕ) → ℕ → Result (Unit {0}) Fault
end_at words at = ended (slice_get words at)

-- a number of one byte
abbrev pub byte_in : Option ℕ → Option ℕ
byte_in None = None
byte_in (Some n) = cond (nat_lt n 256) (Some n) None

abbrev pub number_behind : Option (List ℕ) → Option ℕ
number_behind None = None
number_behind (Some digits) = byte_in (number_in digits)

-- the drive that 8:N names
abbrev pub drive_in : List ℕ → Option ℕ
drive_in word = number_behind (behind (codes "8:") word)

abbrev pub drive_at : List (List ℕ) → ℕ → Result ℕ Fault
drive_at words at = reading Drive NotDrive drive_in (slice_get words at)

-- the sector that 8:N SECTOR names
abbrev pub address_at : List (List ℕ) → ℕ → Result Address Fault
address_at words at = then (drive_at words at) (λ drive. then (number_at words (at + 1) Sector) (λ sector. Ok (record { drive = drive; sector = sector })))

abbrev pub bounded : ℕ → Part → ℕ → Result ℕ Fault
bounded n part most = cond (nat_le n most) (Ok n) (Err (TooLarge part most))

-- The size of a buffer: 512 bytes, or as many as `bytes N` says at the end of a line.
abbrev pub size_by : List (List ℕ) → ℕ → Option (List ℕ) → Result ℕ Fault
size_by words at None = Ok 512
size_by words at (Some word) = cond (bytes_eq word (codes "bytes"))
    (then (number_at words (at + 1) Bytes) (λ n. then (end_at words (at + 2)) (λ _. bounded n Bytes (2 ^ 20))))
    (Err ExtraWord)

abbrev pub size_at : List (List ℕ) → ℕ → Result ℕ Fault
size_at words at = size_by words at (slice_get words at)
