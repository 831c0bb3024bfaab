-- Laws of `listed`, step by step: a search through a list of sectors, entry by entry, and the first entries of a list.
use Rattle.std.proofs.Common.{◌≡◌, ℕ, ◌+◌, ◌-◌, ◌<◌, ◌≤◌, min, true, false, ◌||◌, List, length, get_or, take, drop, sym, ap, ◌∙◌, ⊎_elim, arith}
use Rattle.std.proofs.lemmas.List.{at_drop_more, at_drop_all, take_all}
use Rattle.std.proofs.lemmas.Bool.{eq-eqb, ne_eqb, cases_lt}
use Rattle.drives.specs.Disks.{listed}

module _ (s : ℕ) (xs : List ℕ) (i : ℕ) (h : i < length xs) where
  pub listed_here : get_or xs i 0 ≡ s → listed s (drop i xs) ≡ true
  listed_here e = at_drop_more (listed s) xs i 0 h ∙ ap (λ b. b || listed s (drop (i + 1) xs)) (eq-eqb _ _ e)

  pub listed_next : (get_or xs i 0 ≡ s → ⊥) → listed s (drop (i + 1) xs) ≡ listed s (drop i xs)
  listed_next ne = sym (at_drop_more (listed s) xs i 0 h ∙ ap (λ b. b || listed s (drop (i + 1) xs)) (ne_eqb _ _ ne))

pub listed_end : (s : ℕ) (xs : List ℕ) (i : ℕ) → length xs ≤ i → listed s (drop i xs) ≡ false
listed_end s xs i h = at_drop_all (listed s) xs i h

-- of a list the first n entries, or all of a shorter one
pub first_entries : (xs : List ℕ) (n m : ℕ) → m ≡ min (length xs) n → take (m - 0) xs ≡ take n xs
first_entries xs n m e =
    ⊎_elim
    (λ (h : n < length xs). ap (λ k. take k xs) (omega arith))
    (λ (h : length xs ≤ n). take_all (m - 0) xs (omega arith) ∙ sym (take_all n xs h))
    (cases_lt n (length xs))
