-- A text and its words.
use Rattle.std.specs.Prelude.{◌≡◌, ℕ, ◌<◌, Bool, false, cond, ◌||◌, List, [], ◌∷◌, length, Ok, Err, Result, ◌==◌}
use Rattle.std.specs.Str.Iter.{LacksByte}
use Rattle.std.specs.List.{join_with_byte, AllByRecursion}
use Rattle.lines.specs.declared.fault.Fault.{Fault}
use Rattle.lines.specs.declared.fault.Fault.TheVariants.{EmptyWord}

-- The text, cut at each space.
pub record Cut (text : List ℕ) (words : List (List ℕ)) : Type 0 where
  pub whole : join_with_byte 32 words ≡ text
  pub apart : AllByRecursion (LacksByte 32) words
  pub some : 0 < length words

-- whether a word is empty
abbrev pub hollow : List (List ℕ) → Bool
hollow [] = false
hollow (word ∷ words) = length word == 0 || hollow words

abbrev pub solid : List (List ℕ) → Result (Unit {0}) Fault
solid words = cond (hollow words) (Err EmptyWord) (Ok tt)
