-- Words that are numbers, place by place: what a chain over them collects, or where it stops.
use Rattle.std.proofs.Common.{◌≡◌, ℕ, zero, suc, ◌<◌, ◌⊎◌, List, [], ◌∷◌, length, get_or, Some, None, Ok, Err, Option, Result, IfSome, IsSomeAnd, Vec, Global, vec_items, refl, subst, ap, ◌∙◌, arith, Bor}
use Rattle.std.specs.Option.{IsSomeRelated, ok_or, option_map}
use Rattle.lines.specs.declared.fault.Fault.{Fault}
use Rattle.lines.specs.declared.fault.Fault.TheVariants.{NotNumber, NoMemory}
use Rattle.lines.specs.declared.fault.Part.{Part}
use Rattle.lines.specs.Number.{number_in}
use Rattle.lines.specs.Texts.{texts}
use Rattle.script.specs.Drives.{Read, numbers}

module _ (part : Part) where
  -- what is said of one word
  abbrev said : Bor (List ℕ) → Result ℕ Fault
  said word = ok_or (number_in word.now) (NotNumber part)

  -- each word is a number
  pub all_said : (refs : List (Bor (List ℕ))) (ns : List ℕ) → length ns ≡ length refs → ((k : ℕ) → k < length refs → (d : Bor (List ℕ)) → Ok (get_or ns k 0) ≡ said (get_or refs k d)) → numbers part (texts refs) ≡ Ok ns
  all_said [] [] long each = refl
  all_said [] (n ∷ ns) long each = absurd (omega arith)
  all_said (r ∷ refs) [] long each = absurd (omega arith)
  all_said (r ∷ refs) (n ∷ ns) long each = rw (← each 0 (omega arith) r, all_said refs ns (omega arith) (λ k l d. each (suc k) (omega arith) d)) refl

  -- the first word that is no number stands at i
  pub first_unsaid : (refs : List (Bor (List ℕ))) (i : ℕ) (fault : Fault) → i < length refs → ((k : ℕ) → k < i → (d : Bor (List ℕ)) → (n : ℕ) × (Ok n ≡ said (get_or refs k d))) → ((d : Bor (List ℕ)) → Err fault ≡ said (get_or refs i d)) → numbers part (texts refs) ≡ Err fault
  first_unsaid [] i fault inside before here = absurd (omega arith)
  first_unsaid (r ∷ refs) zero fault inside before here = rw (← here r) refl
  first_unsaid (r ∷ refs) (suc i) fault inside before here = rw (← (before 0 (omega arith) r).1, first_unsaid refs i fault (omega arith) (λ k l d. before (suc k) (omega arith) d) here) refl

  -- what holds of a run's answer at a place holds of what is said of the word at that place
  pub at_word : {R : Bor (Bor (List ℕ)) → Result ℕ Fault → Type 0} → ((x : Bor (Bor (List ℕ))) (y : Result ℕ Fault) → R x y → y ≡ said x.now) → (P : Result ℕ Fault → Type 0) (answer : Option (Result ℕ Fault)) (item : Option (Bor (Bor (List ℕ)))) (word : Bor (List ℕ)) → IfSome item (λ x. IsSomeAnd answer (R x)) → option_map (λ x. x.now) item ≡ Some word → IsSomeAnd answer P → P (said word)
  at_word calls P None item word call read p = absurd p
  at_word calls P (Some y) None word call read p = absurd (let z : ◌≡◌ {A = ℕ} 0 1 = cc in omega arith)
  at_word calls P (Some y) (Some x) word call read p = let same : x.now ≡ word = cc in subst P (calls x y call ∙ ap (λ r. said r) same) p

pub related : {A B : Type 0} (Q : A → B → Type 0) (o : Option A) (y : B) → IsSomeRelated Q o y → IsSomeAnd o (λ x. Q x y)
related Q None y h = h
related Q (Some x) y h = h

-- an answer, by its two cases
pub read_by : (r : Result (Vec ℕ Global) Fault) (due : Result (List ℕ) Fault) → ((v : Vec ℕ Global) → r ≡ Ok v → due ≡ Ok (vec_items v)) → ((e : Fault) → r ≡ Err e → (e ≡ NoMemory) ⊎ (due ≡ Err e)) → Read vec_items due r
read_by (Ok v) due ok err = ok v refl
read_by (Err e) due ok err = err e refl
