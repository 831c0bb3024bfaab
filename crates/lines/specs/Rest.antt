-- The lines of a text.
use Rattle.std.specs.Prelude.{◌≡◌, ℕ, ◌+◌, ◌-◌, ◌^◌, ◌<◌, min, ◌⊎◌, List, [], ◌∷◌, ◌++◌, length, Some, None, Option}
use Rattle.std.specs.Borrow.{Bor}
use Rattle.std.specs.Str.Iter.{LacksByte}
use Rattle.lines.specs.declared.text.Lines.{Lines}

-- The first line of a text, and what follows it: a line ends at a newline or with the text.
pub record First (text line rest : List ℕ) : Type 0 where
  pub one : LacksByte 10 line
  pub whole : (text ≡ line ++ (10 ∷ rest)) ⊎ ((text ≡ line) × (rest ≡ []))

-- how much of a text is left
abbrev pub left : Lines → ℕ
left lines = length lines.rest.now

-- one more, as far as 64 bits count
abbrev pub more : ℕ → ℕ
more n = min (n + 1) (2 ^ 64 - 1)

-- A line is the first of the text that was left, counted, and less text is left behind it.
pub record NextLine (old : Lines) (line : List ℕ) (new : Lines) : Type 0 where
  pub first : First old.rest.now line new.rest.now
  pub shorter : left new < left old
  pub counted : new.number ≡ more old.number

-- The next line of a text, while there is one: where no text is left there is no line, and all stays.
abbrev pub GivesLine : Lines → Option (Bor (List ℕ)) → Lines → Type 0
GivesLine old None new = (old.rest.now ≡ []) × (new ≡ old)
GivesLine old (Some line) new = NextLine old line.now new
