-- What the tests of a line's bytes tell of its kind.
use Rattle.std.proofs.Common.{◌≡◌, ℕ, zero, suc, ◌≤◌, true, false, cond, eqb, List, [], ◌∷◌, length, get_or, Some, None, codes, IsUtf8, IsAscii, sym, refl, ap, ⊎_elim, arith}
use Rattle.std.proofs.lemmas.Bool.{lt-ltb, le-ltb, and_from, and_left, and_right, cases_Bool, ltb-true, and_parts, cond_both, eqb-true, eqb-false}
use Rattle.std.proofs.lemmas.Str.{IsUtf8-from_ascii}
use Rattle.lines.specs.Kinds.{ascii, kind_of, command, expected, skipped}
use Rattle.lines.specs.Texts.{behind}

pub ascii_true : (bs : List ℕ) → IsAscii bs → ascii bs ≡ true
ascii_true [] h = refl
ascii_true (b ∷ bs) h = and_from _ _ (lt-ltb b 128 (h 0)) (ascii_true bs (λ i. h (suc i)))

pub ascii_false : (bs : List ℕ) (i : ℕ) → 128 ≤ get_or bs i 0 → ascii bs ≡ false
ascii_false [] i h = absurd (omega arith)
ascii_false (b ∷ bs) zero h = and_left _ _ (le-ltb b 128 h)
ascii_false (b ∷ bs) (suc i) h = and_right _ _ (ascii_false bs i h)

ascii_holds : (bs : List ℕ) → ascii bs ≡ true → IsAscii bs
ascii_holds [] e i = omega arith
ascii_holds (b ∷ bs) e zero = ltb-true b 128 (and_parts _ _ e).0
ascii_holds (b ∷ bs) e (suc i) = ascii_holds bs (and_parts _ _ e).1 i

pub not_ascii : (bs : List ℕ) → (IsUtf8 bs → ⊥) → ascii bs ≡ false
not_ascii bs h = ⊎_elim (λ e. absurd (h (IsUtf8-from_ascii bs (ascii_holds bs e)))) (λ e. e) (cases_Bool (ascii bs))

not_behind : (text : List ℕ) → ((rest : List ℕ) → text ≡ 61 ∷ 32 ∷ rest → ⊥) → behind (codes "= ") text ≡ None
not_behind [] h = refl
not_behind (c ∷ []) h = cond_both (eqb 61 c) None None (λ o. o ≡ None) (λ e. refl) (λ e. refl)
not_behind (c ∷ d ∷ ds) h =
    cond_both (eqb 61 c) (cond (eqb 32 d) (Some ds) None) None (λ o. o ≡ None)
    (λ e. cond_both (eqb 32 d) (Some ds) None (λ o. o ≡ None) (λ f. absurd (h ds (let p = eqb-true 61 c e in let q = eqb-true 32 d f in cc))) (λ f. refl))
    (λ e. refl)

-- a text that is not empty and begins neither with # nor with an expectation's sign
pub plain_command : (text : List ℕ) → eqb (length text) 0 ≡ false → ((rest : List ℕ) → text ≡ 35 ∷ rest → ⊥) → ((rest : List ℕ) → text ≡ 61 ∷ 32 ∷ rest → ⊥) → command text ≡ kind_of text
plain_command [] e p q = absurd (eqb-false 0 0 e refl)
plain_command (c ∷ cs) e p q =
    cond_both (eqb c 35) skipped (expected (c ∷ cs) (behind (codes "= ") (c ∷ cs))) (λ k. command (c ∷ cs) ≡ k)
    (λ f. absurd (p cs (let s = eqb-true c 35 f in cc)))
    (λ f. sym (ap (expected (c ∷ cs)) (not_behind (c ∷ cs) q)))
