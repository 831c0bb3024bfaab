-- The drives of a script, as the words of a line say them.
use Rattle.std.specs.Prelude.{◌≡◌, ℕ, ◌+◌, ◌^◌, cond, ◌⊎◌, List, [], ◌∷◌, ◌++◌, take, drop, Ok, Err, vec_items, codes, Result}
use Rattle.std.specs.Option.{ok_or}
use Rattle.std.specs.Str.{bytes_eq}
use Rattle.script.specs.declared.drive.Drive.{Drive}
use Rattle.script.specs.declared.drive.Drive.TheVariants.{Memory, Rom}
use Rattle.lines.specs.declared.fault.Fault.{Fault}
use Rattle.lines.specs.declared.fault.Fault.TheVariants.{MissingWord, ExtraWord, NotNumber, NoMemory}
use Rattle.lines.specs.declared.fault.Part.{Part}
use Rattle.lines.specs.declared.fault.Part.TheVariants.{Sectors, Unreadable, Unwritable}
use Rattle.lines.specs.Number.{number_in}
use Rattle.script.specs.Words.{then, number_at, end_at, bounded}

pub data Plan : Type 0 where
  memory : ℕ → List ℕ → List ℕ → Plan
  rom : ℕ → Plan

abbrev pub told_drive : Drive → Plan
told_drive (Memory sectors unreadable unwritable) = memory sectors (vec_items unreadable) (vec_items unwritable)
told_drive (Rom sectors) = rom sectors

-- The answer is the one that is due, unless there was no memory for it.
abbrev pub Read : {X Y : Type 0} → (X → Y) → Result Y Fault → Result X Fault → Type 0
Read told due (Ok x) = due ≡ Ok (told x)
Read told due (Err fault) = (fault ≡ NoMemory) ⊎ (due ≡ Err fault)

-- words that are all numbers
abbrev pub numbers : Part → List (List ℕ) → Result (List ℕ) Fault
numbers part [] = Ok []
numbers part (word ∷ words) = then (ok_or (number_in word) (NotNumber part)) (λ n. then (numbers part words) (λ ns. Ok (n ∷ ns)))

-- numbers behind others that are known
abbrev pub onto : List ℕ → Result (List ℕ) Fault → Result (List ℕ) Fault
onto first rest = then rest (λ ns. Ok (first ++ ns))

abbrev pub some_numbers : Part → List (List ℕ) → Result (List ℕ) Fault
some_numbers part [] = Err (MissingWord part)
some_numbers part (word ∷ words) = numbers part (word ∷ words)

-- a list of sectors, which may be left out: its name and some numbers
abbrev pub marked_in : List ℕ → Part → List (List ℕ) → Result (List ℕ) Fault
marked_in name part [] = Ok []
marked_in name part (word ∷ words) = cond (bytes_eq word name) (some_numbers part words) (Err ExtraWord)

-- how many words stand before the list of unwritable sectors
abbrev pub seam_in : List (List ℕ) → ℕ
seam_in [] = 0
seam_in (word ∷ words) = cond (bytes_eq word (codes "unwritable")) 0 (1 + seam_in words)

abbrev pub lists_in : ℕ → List (List ℕ) → Result Plan Fault
lists_in sectors words = then (marked_in (codes "unreadable") Unreadable (take (seam_in words) words)) (λ unreadable. then (marked_in (codes "unwritable") Unwritable (drop (seam_in words) words)) (λ unwritable. Ok (memory sectors unreadable unwritable)))

-- memory SECTORS [unreadable N ..] [unwritable N ..]
abbrev pub memory_said : List (List ℕ) → Result Plan Fault
memory_said words = then (number_at words 1 Sectors) (λ n. then (bounded n Sectors (2 ^ 21)) (λ sectors. lists_in sectors (drop 2 words)))

-- rom SECTORS
abbrev pub rom_said : List (List ℕ) → Result Plan Fault
rom_said words = then (number_at words 1 Sectors) (λ sectors. then (end_at words 2) (λ _. Ok (rom sectors)))
