-- The numbers of a script.
use Rattle.std.specs.Prelude.{ℕ, ◌+◌, ◌-◌, ◌*◌, ◌^◌, cond, ◌&&◌, List, length, Some, None, fold, Option, nat_lt}
use Rattle.std.specs.Str.{all_ascii_digits}

-- the number that decimal digits write
abbrev pub written : List ℕ → ℕ
written word = fold (λ n c. n * 10 + (c - 48)) 0 word

-- the number of a word of one digit or more, if it is below 2^64
abbrev pub number_in : List ℕ → Option ℕ
number_in word = cond (all_ascii_digits word && (nat_lt 0 (length word) && nat_lt (written word) (2 ^ 64))) (Some (written word)) None
