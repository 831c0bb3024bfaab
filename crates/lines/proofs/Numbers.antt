-- What `parse` reads of a word without a sign is the number that the word writes.
use Rattle.std.proofs.Common.{◌≡◌, ℕ, ◌+◌, ◌-◌, ◌*◌, ◌^◌, ◌<◌, true, List, length, Ok, Err, fold, Result, arith, rules}
use Rattle.std.specs.Result.{OkIff, result_ok}
use Rattle.std.specs.Str.{all_ascii_digits}
use Rattle.std.proofs.lemmas.Str.Parse.{IsNumeralModel, numerals_by_fold}
use Rattle.std.proofs.lemmas.Bool.Decides.{nat_tests}
use Rattle.lines.specs.Number.{written, number_in}

pub own : IsNumeralModel (λ ds. all_ascii_digits ds ≡ true) written
own = numerals_by_fold _ (search rules) (λ n w. fold (λ m c. m * 10 + (c - 48)) n w) (search rules)

pub number_from : {E : Type 0} (w : List ℕ) (r : Result ℕ E) → OkIff r ((all_ascii_digits w ≡ true) × (0 < length w) × (written w < 2 ^ 64)) (written w) → result_ok r ≡ number_in w
number_from w (Ok x) h = grind (arith, nat_tests)
number_from w (Err e) h = grind (arith, nat_tests)
