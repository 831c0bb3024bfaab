-- Which refusal is due, of several that could be.
use Rattle.std.specs.Prelude.{ℕ, Bool, cond, List, [], ◌∷◌, Some, None, Option}

-- Conditions with their numbers, top to bottom: the first that holds gives its number.
abbrev pub first_due : List (ℕ × Bool) → Option ℕ
first_due [] = None
first_due (p ∷ ps) = cond p.1 (Some p.0) (first_due ps)
