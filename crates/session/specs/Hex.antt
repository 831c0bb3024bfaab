-- Hexadecimal digits.
use Rattle.std.specs.Prelude.{ℕ, ◌+◌, ◌/◌, ◌%◌, ◌^◌, cond, List, [], ◌∷◌, nat_lt}

-- the last digit of a number, 0 to 9 and a to f
abbrev pub hex_digit : ℕ → ℕ
hex_digit n = cond (nat_lt (n % 16) 10) (48 + n % 16) (87 + n % 16)

-- eight digits, the highest first
abbrev pub hex_text : ℕ → List ℕ
hex_text n = hex_digit (n / 2 ^ 28) ∷ hex_digit (n / 2 ^ 24) ∷ hex_digit (n / 2 ^ 20) ∷ hex_digit (n / 2 ^ 16) ∷ hex_digit (n / 2 ^ 12) ∷ hex_digit (n / 2 ^ 8) ∷ hex_digit (n / 2 ^ 4) ∷ hex_digit n ∷ []
