-- The words of a text, and laws of `hollow`: the search for an empty one, word by word.
use Rattle.std.proofs.Common.{Ok, Err, cond, ap, refl, ◌≡◌, ℕ, suc, ◌+◌, ◌<◌, Bool, true, false, ◌||◌, eqb, List, [], ◌∷◌, length, get_or, drop, sym, ◌∙◌, arith, Bor}
use Rattle.std.specs.Str.Iter.{LacksByte}
use Rattle.std.specs.Prelude.{◌==◌}
use Rattle.std.specs.List.{list_any, join_with_byte, AllByRecursion}
use Rattle.std.proofs.lemmas.List.{length-map, at_drop_more}
use Rattle.std.proofs.lemmas.List.Recursion.{same_from_clauses}
use Rattle.lines.specs.declared.fault.Fault.TheVariants.{EmptyWord}
use Rattle.lines.specs.Texts.{texts}
use Rattle.script.specs.Cuts.{Cut, hollow, solid}

-- the words of a text, from what each of them says at its place
pub cut_by : (text : List ℕ) (refs : List (Bor (List ℕ))) → text ≡ join_with_byte 32 (texts refs) → ((k : ℕ) (d : Bor (List ℕ)) → k < length refs → LacksByte 32 (get_or refs k d).now) → 0 < length refs → Cut text (texts refs)
cut_by text refs whole apart some = record { whole = sym whole; apart = each refs apart; some = omega (arith, length-map refs (λ r. r.now)) }
  where
    each : (rs : List (Bor (List ℕ))) → ((k : ℕ) (d : Bor (List ℕ)) → k < length rs → LacksByte 32 (get_or rs k d).now) → AllByRecursion (LacksByte 32) (texts rs)
    each [] h = tt
    each (r ∷ rs) h = (h 0 r (omega arith), each rs (λ k d l. h (suc k) d (omega arith)))

hollow_any : (refs : List (Bor (List ℕ))) → hollow (texts refs) ≡ list_any (λ r. length r.now == 0) refs
hollow_any = same_from_clauses (λ rs. hollow (texts rs)) (λ rs. list_any (λ r. length r.now == 0) rs) (λ r h. length r.now == 0 || h) refl (λ _ _. refl) (λ _ _. refl)

-- the words of a slice, by a test of each
pub solid_by : (refs : List (Bor (List ℕ))) → solid (texts refs) ≡ cond (list_any (λ r. length r.now == 0) refs) (Err EmptyWord) (Ok tt)
solid_by refs = ap (λ b. cond b (Err EmptyWord) (Ok tt)) (hollow_any refs)

-- one word on in the search for an empty one
module _ (refs : List (Bor (List ℕ))) (i : ℕ) (d : Bor (List ℕ)) (inside : i < length refs) where
  hollow_more : hollow (texts (drop i refs)) ≡ (eqb (length (get_or refs i d).now) 0 || hollow (texts (drop (i + 1) refs)))
  hollow_more = at_drop_more (λ rs. hollow (texts rs)) refs i d inside

  pub not_here : (h : Bool) → eqb (length (get_or refs i d).now) 0 ≡ false → hollow (texts (drop i refs)) ≡ h → hollow (texts (drop (i + 1) refs)) ≡ h
  not_here h e inv = sym (hollow_more ∙ ap (λ b. b || hollow (texts (drop (i + 1) refs))) e) ∙ inv

  pub here : (h : Bool) → eqb (length (get_or refs i d).now) 0 ≡ true → hollow (texts (drop i refs)) ≡ h → h ≡ true
  here h e inv = sym inv ∙ hollow_more ∙ ap (λ b. b || hollow (texts (drop (i + 1) refs))) e
