-- What the places of a layout mean once one of them is taken.
use Rattle.std.proofs.Common.{◌≡◌, ℕ, List, map, slice_set, Some, Option, ap, ◌∙◌}
use Rattle.std.proofs.lemmas.List.{map-set}
use Rattle.bank.specs.Absent.{maybe_means}
use Rattle.bank.specs.Meaning.{Meaning}
use Rattle.layout.specs.Places.{place_means}
use Rattle.layout.specs.declared.place.Place.{Place}

pub taken : (places : List (Option Place)) (number : ℕ) (place : Place) (m : Meaning) → place_means place ≡ m → map (maybe_means place_means) (slice_set places number (Some place)) ≡ slice_set (map (maybe_means place_means) places) number m
taken places number place m e = map-set (maybe_means place_means) places number (Some place) ∙ ap (slice_set (map (maybe_means place_means) places) number) e
