-- A law of `Stored`: a command that only asks changes nothing, whether there was memory for it or not.
use Rattle.std.proofs.Common.{◌≡◌, [], Ok, Err, Result, refl, MatchResult}
use Rattle.bank.specs.Meaning.{Meaning, Stored}
use Rattle.bank.proofs.Stores.{nothing_stored}

pub asked_only : {X E B : Type 0} (r : Result X E) (m : Meaning) (b : B) → MatchResult r (λ _. Stored m m [] []) (λ _. b ≡ b)
asked_only (Ok x) m b = nothing_stored m []
asked_only (Err e) m b = refl
