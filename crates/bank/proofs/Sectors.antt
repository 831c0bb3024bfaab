-- Bytes cut into sectors of 512: what each sector is, and what a write to one of them leaves of the others.
use Rattle.std.proofs.Common.{◌≡◌, ℕ, ◌+◌, ◌-◌, ◌*◌, ◌/◌, ◌<◌, ◌≤◌, List, length, get_or, take, drop, replicate, sym, ap, ◌∙◌, ⊎_elim, arith, length-append}
use Rattle.std.proofs.lemmas.List.{length-take, length-drop, length-take-le, get_or-take, get_or-drop, get_or_append_left, get_or-append_right, get_or-replicate, length-replicate, same_lists}
use Rattle.std.proofs.lemmas.Bool.{cases_lt}
use Rattle.bank.specs.Meaning.{Sector}
use Rattle.bank.specs.Shapes.{cut, with_sector}

pub filled_sector : (s : ℕ) → s < 256 → Sector (replicate 512 s)
filled_sector s h = record { long = length-replicate 512 s; small = λ k l. rw (get_or-replicate 512 k s 0 l) h }

module _ (all : List ℕ) (s : ℕ) (h : s < length all / 512) where
  inside : s * 512 + 512 ≤ length all
  inside = omega arith

  cut_length : length (cut all s) ≡ 512
  cut_length = let i = inside in simp (length-take, length-drop) (omega arith)

  cut_at : (k : ℕ) → k < 512 → get_or (cut all s) k 0 ≡ get_or all (s * 512 + k) 0
  cut_at k l = get_or-take 512 (drop (s * 512) all) k 0 l ∙ get_or-drop (s * 512) all k 0

  pub cut_sector : ((k : ℕ) → get_or all k 0 < 256) → Sector (cut all s)
  cut_sector small = record { long = cut_length; small = λ k l. rw (cut_at k l) (small (s * 512 + k)) }

  module _ (bs : List ℕ) (full : length bs ≡ 512) where
    front : length (take (s * 512) all) ≡ s * 512
    front = let i = inside in length-take-le (s * 512) all (omega arith)

    pub with_sector_length : length (with_sector all s bs) ≡ length all
    with_sector_length = let i = inside in let f = front in simp (length-append, length-drop) (omega arith)

    with_at_front : (k d : ℕ) → k < s * 512 → get_or (with_sector all s bs) k d ≡ get_or all k d
    with_at_front k d l = let f = front in get_or_append_left _ _ d k (omega arith) ∙ get_or-take (s * 512) all k d l

    with_at_middle : (k d : ℕ) → s * 512 ≤ k → k < s * 512 + 512 → get_or (with_sector all s bs) k d ≡ get_or bs (k - s * 512) d
    with_at_middle k d l m = get_or-append_right _ _ (s * 512) k d front l ∙ get_or_append_left bs _ d (k - s * 512) (omega arith)

    with_at_back : (k d : ℕ) → s * 512 + 512 ≤ k → get_or (with_sector all s bs) k d ≡ get_or all k d
    with_at_back k d l =
        get_or-append_right _ _ (s * 512) k d front (omega arith)
        ∙ get_or-append_right bs (drop 512 (drop (s * 512) all)) 512 (k - s * 512) d full (omega arith)
        ∙ get_or-drop 512 (drop (s * 512) all) (k - s * 512 - 512) d
        ∙ get_or-drop (s * 512) all (512 + (k - s * 512 - 512)) d
        ∙ ap (λ n. get_or all n d) (omega arith)

    pub with_sector_there : cut (with_sector all s bs) s ≡ bs
    with_sector_there =
        let i = inside in
        let n : length (cut (with_sector all s bs) s) ≡ 512 = simp (length-take, length-drop, with_sector_length) (omega arith) in
        same_lists _ bs (omega arith)
        (λ k d l. get_or-take 512 (drop (s * 512) (with_sector all s bs)) k d (omega arith) ∙ get_or-drop (s * 512) (with_sector all s bs) k d ∙ with_at_middle (s * 512 + k) d (omega arith) (omega arith) ∙ ap (λ j. get_or bs j d) (omega arith))

    with_elsewhere_at : (t k d : ℕ) → (t ≡ s → ⊥) → k < 512 → get_or (with_sector all s bs) (t * 512 + k) d ≡ get_or all (t * 512 + k) d
    with_elsewhere_at t k d ne l =
        ⊎_elim (λ (b : t < s). with_at_front (t * 512 + k) d (omega arith)) (λ (b : s ≤ t). with_at_back (t * 512 + k) d (omega arith)) (cases_lt t s)

    pub with_sector_elsewhere : (t : ℕ) → (t ≡ s → ⊥) → cut (with_sector all s bs) t ≡ cut all t
    with_sector_elsewhere t ne =
        let n : length (cut (with_sector all s bs) t) ≡ length (cut all t) = simp (length-take, length-drop, with_sector_length) in
        let small : (j : ℕ) → j < length (cut (with_sector all s bs) t) → j < 512 = λ j h. omega (arith, length-take 512 (drop (t * 512) (with_sector all s bs))) in
        same_lists _ _ n
        (λ k d l. get_or-take 512 (drop (t * 512) (with_sector all s bs)) k d (small k l) ∙ get_or-drop (t * 512) (with_sector all s bs) k d ∙ with_elsewhere_at t k d ne (small k l) ∙ sym (get_or-take 512 (drop (t * 512) all) k d (small k l) ∙ get_or-drop (t * 512) all k d))

    -- bytes stay bytes
    pub with_sector_bytes : ((k : ℕ) → get_or all k 0 < 256) → ((k : ℕ) → get_or bs k 0 < 256) → (k : ℕ) → get_or (with_sector all s bs) k 0 < 256
    with_sector_bytes a b k =
        ⊎_elim
        (λ (l : k < s * 512). rw (with_at_front k 0 l) (a k))
        (λ (l : s * 512 ≤ k). ⊎_elim (λ (m : k < s * 512 + 512). rw (with_at_middle k 0 l m) (b (k - s * 512))) (λ (m : s * 512 + 512 ≤ k). rw (with_at_back k 0 m) (a k)) (cases_lt k (s * 512 + 512)))
        (cases_lt k (s * 512))
