-- Laws of the words of a slice, place by place: what stands at a place, and that a word which was read is there.
-- And what a command says by the words behind its name, read from the left.
use Rattle.std.proofs.Common.{◌≡◌, ℕ, ◌<◌, ◌≤◌, List, [], ◌∷◌, length, drop, Some, None, Ok, Option, sym, refl, ap, ◌∙◌, ⊎_elim, arith, Bor, MatchOption}
use Rattle.std.specs.List.{slice_get}
use Rattle.std.specs.Option.{option_map}
use Rattle.std.specs.Slice.{IsGetResult}
use Rattle.std.proofs.lemmas.List.{length-map, get_or-map}
use Rattle.std.proofs.lemmas.Option.{slice_get-get_or, slice_get_past}
use Rattle.std.proofs.lemmas.Bool.{cases_lt}
use Rattle.lines.specs.declared.fault.Fault.TheVariants.{NotNumber}
use Rattle.lines.specs.declared.fault.Part.{Part}
use Rattle.lines.specs.declared.fault.Part.TheVariants.{Seed}
use Rattle.lines.specs.Number.{number_in}
use Rattle.lines.specs.Texts.{texts}
use Rattle.script.specs.declared.command.BankCommand.TheVariants.{Get, Put}
use Rattle.script.specs.Commands.{get_said, put_said}
use Rattle.script.specs.Words.{then, reading, address_at, number_at, size_at}

pub picked : (refs : List (Bor (List ℕ))) (i : ℕ) (r : Option (Bor (Bor (List ℕ)))) → IsGetResult refs i i r → option_map (λ x. x.now.now) r ≡ slice_get (texts refs) i
picked refs i None h = sym (slice_get_past (texts refs) i (omega (arith, length-map refs (λ r. r.now), h.3)))
picked refs i (Some x) h =
    let inside : i < length (texts refs) = omega (arith, length-map refs (λ r. r.now), h.3.0) in
    sym (slice_get-get_or (texts refs) i [] inside ∙ ap Some (get_or-map (λ r. r.now) refs i x.now [] h.3.0 ∙ ap (λ r. r.now) (sym (h.3.1 x.now))))

pub mapped_twice : (r : Option (Bor (Bor (List ℕ)))) → option_map (λ x. x.now) (option_map (λ x. x.now) r) ≡ option_map (λ x. x.now.now) r
mapped_twice None = refl
mapped_twice (Some x) = refl

-- whether a place is inside, of the text that stands there
pub inside : (refs : List (Bor (List ℕ))) (i : ℕ) (r : Option (Bor (Bor (List ℕ)))) → IsGetResult refs i i r → MatchOption (option_map (λ x. x.now) r) (length refs ≤ i) (λ _. i < length refs)
inside refs i None h = h.3
inside refs i (Some x) h = h.3.0

-- a word that was read as a number is there
pub placed : (refs : List (Bor (List ℕ))) (i : ℕ) (part : Part) (n : ℕ) → Ok n ≡ number_at (texts refs) i part → i < length refs
placed refs i part n h =
    ⊎_elim (λ l. l) (λ l. let past : slice_get (texts refs) i ≡ None = slice_get_past (texts refs) i (omega (arith, length-map refs (λ r. r.now))) in let e = ap (reading part (NotNumber part) number_in) past in absurd (let z : ◌≡◌ {A = ℕ} 0 1 = cc in omega arith)) (cases_lt i (length refs))

-- the words behind a command's name
pub get_by : (name : List ℕ) (words : List (List ℕ)) → get_said (name ∷ words) ≡ then (address_at words 0) (λ address. then (size_at (drop 2 words) 0) (λ size. Ok (Get address size)))
get_by name [] = refl
get_by name (v ∷ []) = refl
get_by name (v ∷ w ∷ words) = refl

pub put_by : (name : List ℕ) (words : List (List ℕ)) → put_said (name ∷ words) ≡ then (address_at words 0) (λ address. then (number_at (drop 2 words) 0 Seed) (λ seed. then (size_at (drop 1 (drop 2 words)) 0) (λ size. Ok (Put address seed size))))
put_by name [] = refl
put_by name (v ∷ []) = refl
put_by name (v ∷ w ∷ []) = refl
put_by name (v ∷ w ∷ x ∷ words) = refl
