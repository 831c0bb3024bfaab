-- A law of `command_said`, by its first word: a line whose first word names no drive says a command of a bank.
use Rattle.std.proofs.Common.{◌≡◌, ℕ, List, Some, Ok, codes, sym, ap, ◌∙◌}
use Rattle.std.specs.List.{slice_get}
use Rattle.std.proofs.lemmas.Bool.{cond-false}
use Rattle.script.specs.Commands.{bank_said}
use Rattle.script.specs.Parsed.{bank, by_name, command_said}
use Rattle.script.specs.Words.{then}
use Rattle.script.proofs.Drives.{not_same}

pub no_drive : (words : List (List ℕ)) (name : List ℕ) → Some name ≡ slice_get words 0 → (name ≡ codes "memory" → ⊥) → (name ≡ codes "rom" → ⊥) → command_said words ≡ then (bank_said words) (λ it. Ok (bank it))
no_drive words name e m r = ap (by_name words) (sym e) ∙ (cond-false _ _ _ (not_same name (codes "memory") m) ∙ cond-false _ _ _ (not_same name (codes "rom") r))
