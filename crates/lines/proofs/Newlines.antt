-- Laws of `First`: a text cut at its first newline, byte by byte up to it.
use Rattle.std.proofs.Common.{◌≡◌, ℕ, ◌<◌, ◌≤◌, List, ◌∷◌, ◌++◌, length, get_or, take, drop, sym, ap, ◌∙◌, inl, inr, ⊎_elim, arith}
use Rattle.std.proofs.lemmas.List.{take-append-drop, take_all, drop_all, drop_more, drop-drop, get_or-take, length-take-le, length-drop}
use Rattle.std.proofs.lemmas.Bool.{cases_lt}
use Rattle.lines.specs.Rest.{First}

module _ (text line after rest : List ℕ) (n : ℕ) (within : n ≤ length text) (front : line ≡ take n text) (back : after ≡ drop n text) (next : rest ≡ drop 1 after) where
  pub first_line : ((k : ℕ) → k < n → get_or text k 0 ≡ 10 → ⊥) → (n < length text → get_or text n 0 ≡ 10) → First text line rest
  first_line before found = record {
    one = λ k h e. before k (omega (arith, ap length front, length-take-le n text within)) (sym (get_or-take n text k 0 (omega (arith, ap length front, length-take-le n text within))) ∙ ap (λ l. get_or l k 0) (sym front) ∙ e);
    whole = ⊎_elim
        (λ inside. inl (sym (take-append-drop n text) ∙ ap (λ l. take n text ++ l) (drop_more text n 0 inside) ∙ (λ i. sym front i ++ (found inside i ∷ sym (next ∙ ap (drop 1) back ∙ drop-drop 1 n text) i))))
        (λ past. inr (sym (front ∙ take_all n text past), next ∙ ap (drop 1) (back ∙ drop_all n text past)))
        (cases_lt n (length text));
  }

  pub shorter_rest : 0 < length text → length rest < length text
  shorter_rest some = omega (arith, ap length next ∙ length-drop 1 after, ap length back ∙ length-drop n text)
