-- Eight of a kind as a list.
use Rattle.std.specs.Prelude.{List, [], ◌∷◌}
use Rattle.layout.specs.declared.eight.Eight.{Eight}

abbrev pub in_order : {X : Type 0} → Eight X → List X
in_order e = e.a ∷ e.b ∷ e.c ∷ e.d ∷ e.e ∷ e.f ∷ e.g ∷ e.h ∷ []
