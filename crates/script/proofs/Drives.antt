-- Laws of a memory drive's lists, word by word, and what is found among the words of a slice.
use Rattle.std.proofs.Common.{not, ◌≡◌, Bool, ℕ, ◌+◌, ◌<◌, ◌≤◌, true, false, cond, ◌⊎◌, List, [], ◌∷◌, ◌++◌, length, get_or, take, drop, Some, None, Ok, Err, codes, Result, sym, refl, ap, ◌∙◌, inl, inr, ⊎_elim, append_assoc, append-nil, arith, Bor}
use Rattle.std.specs.List.{position, position_or_len, slice_get}
use Rattle.std.specs.Option.{ok_or, unwrap_or}
use Rattle.std.specs.Str.{bytes_eq}
use Rattle.std.proofs.lemmas.Grind.{common_steps}
use Rattle.std.proofs.lemmas.Slice.Eq.{bytes_eq-Decides}
use Rattle.std.proofs.lemmas.List.{at_drop_more, take-map, drop-map}
use Rattle.std.proofs.lemmas.List.Recursion.{is_position_or_len}
use Rattle.std.proofs.lemmas.List.Sums.{prefix_len-le-length}
use Rattle.std.proofs.lemmas.Bool.{not-false, cond-true, cond-false, cases_Bool}
use Rattle.lines.specs.declared.fault.Fault.{Fault}
use Rattle.lines.specs.declared.fault.Fault.TheVariants.{MissingWord, ExtraWord, NotNumber, NoMemory}
use Rattle.lines.specs.declared.fault.Part.{Part}
use Rattle.lines.specs.declared.fault.Part.TheVariants.{Unreadable, Unwritable}
use Rattle.script.specs.Drives.{numbers, some_numbers, onto, marked_in, seam_in, lists_in, memory}
use Rattle.lines.specs.Number.{number_in}
use Rattle.lines.specs.Texts.{texts}
use Rattle.script.specs.Words.{then}

same : (v w : List ℕ) → v ≡ w → bytes_eq v w ≡ true
same v w e = (bytes_eq-Decides v w).1 e

pub not_same : (v w : List ℕ) → (v ≡ w → ⊥) → bytes_eq v w ≡ false
not_same v w h = ⊎_elim (λ e. absurd (h ((bytes_eq-Decides v w).0 e))) (λ e. e) (cases_Bool (bytes_eq v w))

-- numbers that go on: one more of them is known
onto_push : (first : List ℕ) (n : ℕ) (rest : Result (List ℕ) Fault) → onto (first ++ n ∷ []) rest ≡ onto first (then rest (λ ns. Ok (n ∷ ns)))
onto_push first n (Ok ns) = ap Ok (append_assoc first (n ∷ []) ns)
onto_push first n (Err fault) = refl

module _ (refs : List (Bor (List ℕ))) (i : ℕ) (d : Bor (List ℕ)) (inside : i < length refs) where
  seam_more : seam_in (texts (drop i refs)) ≡ cond (bytes_eq (get_or refs i d).now (codes "unwritable")) 0 (1 + seam_in (texts (drop (i + 1) refs)))
  seam_more = at_drop_more (λ rs. seam_in (texts rs)) refs i d inside

  pub seam_here : (s : ℕ) → (get_or refs i d).now ≡ codes "unwritable" → seam_in (texts (drop i refs)) + i ≡ s → i ≡ s
  seam_here s e inv = omega (arith, seam_more ∙ cond-true _ 0 (1 + seam_in (texts (drop (i + 1) refs))) (same _ _ e))

  pub seam_next : (s : ℕ) → ((get_or refs i d).now ≡ codes "unwritable" → ⊥) → seam_in (texts (drop i refs)) + i ≡ s → seam_in (texts (drop (i + 1) refs)) + (i + 1) ≡ s
  seam_next s h inv = omega (arith, seam_more ∙ cond-false _ 0 (1 + seam_in (texts (drop (i + 1) refs))) (not_same _ _ h))

  module _ (part : Part) (first : List ℕ) (all : Result (List ℕ) Fault) (inv : onto first (numbers part (texts (drop i refs))) ≡ all) where
    numbers_more : numbers part (texts (drop i refs)) ≡ then (ok_or (number_in (get_or refs i d).now) (NotNumber part)) (λ n. then (numbers part (texts (drop (i + 1) refs))) (λ ns. Ok (n ∷ ns)))
    numbers_more = at_drop_more (λ rs. numbers part (texts rs)) refs i d inside

    pub no_number : None ≡ number_in (get_or refs i d).now → all ≡ Err (NotNumber part)
    no_number e = sym inv ∙ ap (onto first) (rw (← e) at numbers_more)

    pub one_number : (n : ℕ) (next : List ℕ) → Some n ≡ number_in (get_or refs i d).now → next ≡ first ++ n ∷ [] → onto next (numbers part (texts (drop (i + 1) refs))) ≡ all
    one_number n next e grown = ap (λ l. onto l (numbers part (texts (drop (i + 1) refs)))) grown ∙ onto_push first n (numbers part (texts (drop (i + 1) refs))) ∙ sym (ap (onto first) (rw (← e) at numbers_more)) ∙ inv

-- all numbers are known
pub onto_none : (first : List ℕ) → onto first (Ok []) ≡ Ok first
onto_none first = ap Ok (append-nil first)

-- a list that has a first word
module _ (name : List ℕ) (part : Part) (word : List ℕ) where
  pub other_name : (refs : List (Bor (List ℕ))) → Some word ≡ slice_get (texts refs) 0 → (word ≡ name → ⊥) → marked_in name part (texts refs) ≡ Err ExtraWord
  other_name [] starts h = absurd (let z : ◌≡◌ {A = ℕ} 0 1 = cc in omega arith)
  other_name (r ∷ rs) starts h = cond-false _ (some_numbers part (texts rs)) (Err ExtraWord) (not_same r.now name (λ e. h (cc)))

  pub name_alone : (refs : List (Bor (List ℕ))) → Some word ≡ slice_get (texts refs) 0 → word ≡ name → length refs ≡ 1 → marked_in name part (texts refs) ≡ Err (MissingWord part)
  name_alone [] starts e one = absurd (omega arith)
  name_alone (r ∷ []) starts e one = cond-true _ (Err (MissingWord part)) (Err ExtraWord) (same r.now name (cc))
  name_alone (r ∷ q ∷ rs) starts e one = absurd (omega arith)

  pub name_first : (refs : List (Bor (List ℕ))) → Some word ≡ slice_get (texts refs) 0 → word ≡ name → (length refs ≡ 1 → ⊥) → marked_in name part (texts refs) ≡ numbers part (texts (drop 1 refs))
  name_first [] starts e more = absurd (let z : ◌≡◌ {A = ℕ} 0 1 = cc in omega arith)
  name_first (r ∷ []) starts e more = absurd (more refl)
  name_first (r ∷ q ∷ rs) starts e more = cond-true _ (numbers part (texts (q ∷ rs))) (Err ExtraWord) (same r.now name (cc))

-- what a step answered goes on through those that follow it
pub read_on : {X Y : Type 0} (due : Result X Fault) (next : X → Result Y Fault) (fault : Fault) → (fault ≡ NoMemory) ⊎ (due ≡ Err fault) → (fault ≡ NoMemory) ⊎ (then due next ≡ Err fault)
read_on due next fault h = ⊎_elim inl (λ e. inr (ap (λ r. then r next) e)) h

-- the parts of a slice of words are those of its texts
pub front_texts : (refs front : List (Bor (List ℕ))) (n m : ℕ) → front ≡ take n refs → n ≡ m → texts front ≡ take m (texts refs)
front_texts refs front n m e f = ap texts e ∙ sym (take-map (λ r. r.now) n refs) ∙ ap (λ k. take k (texts refs)) f

pub back_texts : (refs back : List (Bor (List ℕ))) (n m : ℕ) → back ≡ drop n refs → n ≡ m → texts back ≡ drop m (texts refs)
back_texts refs back n m e f = ap texts e ∙ sym (drop-map (λ r. r.now) n refs) ∙ ap (λ k. drop k (texts refs)) f

-- where the second list begins, as it is found among the words that a slice holds
abbrev second : Bor (List ℕ) → Bool
second word = bytes_eq word.now (codes "unwritable")

seam_position : (refs : List (Bor (List ℕ))) → seam_in (texts refs) ≡ position_or_len second refs
seam_position refs = is_position_or_len (λ rs. seam_in (texts rs)) second refl (λ _ _. refl) refs

seam_found : (refs : List (Bor (List ℕ))) → unwrap_or (position second refs) (length refs) ≡ seam_in (texts refs)
seam_found refs = grind (arith, common_steps, seam_position refs, prefix_len-le-length)

-- the lists of a drive, cut at the place that is found
pub lists_cut : (sectors : ℕ) (refs : List (Bor (List ℕ))) →
    let n = unwrap_or (position (λ word. bytes_eq word.now (codes "unwritable")) refs) (length refs) in
    lists_in sectors (texts refs) ≡ then (marked_in (codes "unreadable") Unreadable (texts (take n refs))) (λ unreadable. then (marked_in (codes "unwritable") Unwritable (texts (drop n refs))) (λ unwritable. Ok (memory sectors unreadable unwritable)))
lists_cut sectors refs = rw (seam_found refs, take-map (λ r. r.now) (seam_in (texts refs)) refs, drop-map (λ r. r.now) (seam_in (texts refs)) refs)

-- a list's name, and nothing behind it
pub named_alone : (name : List ℕ) (part : Part) (refs : List (Bor (List ℕ))) (d : Bor (List ℕ)) → false ≡ not (bytes_eq (get_or refs 0 d).now name) → 1 ≤ length refs → length refs < 2 → marked_in name part (texts refs) ≡ Err (MissingWord part)
named_alone name part [] d named some few = absurd (omega arith)
named_alone name part (r ∷ []) d named some few = cond-true _ (Err (MissingWord part)) (Err ExtraWord) (not-false _ (sym named))
named_alone name part (r ∷ q ∷ rs) d named some few = absurd (omega arith)

-- a list's name, and the words behind it
pub named_first : (name : List ℕ) (part : Part) (refs : List (Bor (List ℕ))) (d : Bor (List ℕ)) → false ≡ not (bytes_eq (get_or refs 0 d).now name) → 2 ≤ length refs → marked_in name part (texts refs) ≡ numbers part (texts (drop 1 refs))
named_first name part [] d named some = absurd (omega arith)
named_first name part (r ∷ []) d named some = absurd (omega arith)
named_first name part (r ∷ q ∷ rs) d named some = cond-true _ (numbers part (texts (q ∷ rs))) (Err ExtraWord) (not-false _ (sym named))
