-- Texts and what they begin with.
use Rattle.std.specs.Prelude.{ℕ, cond, List, [], ◌∷◌, map, Some, None, Option, ◌==◌}
use Rattle.std.specs.Borrow.{Bor}

-- the bytes of each text of a list
abbrev pub texts : List (Bor (List ℕ)) → List (List ℕ)
texts refs = map (λ r. r.now) refs

-- what follows a beginning, if a text begins so
abbrev pub behind : List ℕ → List ℕ → Option (List ℕ)
behind [] text = Some text
behind (c ∷ cs) [] = None
behind (c ∷ cs) (d ∷ ds) = cond (c == d) (behind cs ds) None
