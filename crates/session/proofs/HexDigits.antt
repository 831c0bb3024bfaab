-- Eight hexadecimal digits are what `{:08x}` writes of a number of 32 bits.
use Rattle.std.proofs.Common.{◌≡◌, ℕ, zero, suc, ◌+◌, ◌-◌, ◌/◌, ◌%◌, ◌^◌, ◌<◌, ◌≤◌, Bool, true, false, List, [], ◌∷◌, ◌++◌, ◌==◌, if◌then◌else◌, length, replicate, refl, sym, ap, ◌∙◌, arith, pow-suc}
use Rattle.std.proofs.lemmas.List.{append-nil}
use Rattle.std.proofs.lemmas.Bool.{eqb-true}
use Rattle.std.proofs.lemmas.Bool.Decides.{nat_tests}
use Rattle.std.specs.Fmt.{digits, digits_onto, digit_glyph, padded_integral, format_spec, char_count}
use Rattle.session.specs.Hex.{hex_digit, hex_text}

-- the last k digits of n, and then acc
abbrev last_digits : ℕ → ℕ → List ℕ → List ℕ
last_digits zero n acc = acc
last_digits (suc k) n acc = last_digits k (n / 16) (digit_glyph false (n % 16) ∷ acc)

zeros : (k : ℕ) (acc : List ℕ) → replicate k 48 ++ (48 ∷ acc) ≡ replicate (suc k) 48 ++ acc
zeros zero acc = refl
zeros (suc k) acc = ap (λ l. 48 ∷ l) (zeros k acc)

last_digits-zero : (k : ℕ) (acc : List ℕ) → replicate k 48 ++ acc ≡ last_digits k 0 acc
last_digits-zero zero acc = refl
last_digits-zero (suc k) acc = sym (zeros k acc) ∙ last_digits-zero k (48 ∷ acc)

positive : (k m : ℕ) → 0 < m → m < 16 ^ k → 0 < k
positive zero m some small = absurd (omega arith)
positive (suc k) m some small = omega arith

-- what is shown, with zeros before it up to so many digits
abbrev filled_up : ℕ → List ℕ → List ℕ
filled_up width shown = replicate (width - length shown) 48 ++ shown

-- the digits of a number below 16 ^ k
filled_up-digits : (k f n : ℕ) (acc : List ℕ) → 0 < k → k ≤ f → n < 16 ^ k → filled_up (k + length acc) (digits_onto f 16 false n acc) ≡ last_digits k n acc
filled_up-digits zero f n acc some enough small = absurd (omega arith)
filled_up-digits (suc k) zero n acc some enough small = absurd (omega arith)
filled_up-digits (suc k) (suc f) n acc some enough small = by (n / 16 == 0) refl (filled_up-digits k f (n / 16) more)
  where
    more : List ℕ
    more = digit_glyph false (n % 16) ∷ acc

    by : (last : Bool) → (n / 16 == 0) ≡ last
        → (0 < k → k ≤ f → n / 16 < 16 ^ k → filled_up (k + suc (length acc)) (digits_onto f 16 false (n / 16) more) ≡ last_digits k (n / 16) more)
        → filled_up (suc k + length acc) (if last then more else digits_onto f 16 false (n / 16) more) ≡ last_digits k (n / 16) more
    by true e rest =
        let none : n / 16 ≡ 0 = eqb-true _ 0 e in
        let few : suc k + length acc - suc (length acc) ≡ k = omega arith in
        rw (few, none) (last_digits-zero k more)
    by false e rest =
        let left : 0 < n / 16 = grind (arith, nat_tests) in
        let below : n / 16 < 16 ^ k = omega (arith, pow-suc 16 k) in
        let same : suc k + length acc ≡ k + suc (length acc) = omega arith in
        rw same (rest (positive k (n / 16) left below) (omega arith) below)

hex_text-last_digits : (n : ℕ) → last_digits 8 n [] ≡ hex_text n
hex_text-last_digits n =
    let two : n / 16 / 16 ≡ n / 2 ^ 8 = omega arith in
    let three : n / 16 / 16 / 16 ≡ n / 2 ^ 12 = omega arith in
    let four : n / 16 / 16 / 16 / 16 ≡ n / 2 ^ 16 = omega arith in
    let five : n / 16 / 16 / 16 / 16 / 16 ≡ n / 2 ^ 20 = omega arith in
    let six : n / 16 / 16 / 16 / 16 / 16 / 16 ≡ n / 2 ^ 24 = omega arith in
    let seven : n / 16 / 16 / 16 / 16 / 16 / 16 / 16 ≡ n / 2 ^ 28 = omega arith in
    λ i. hex_digit (seven i) ∷ hex_digit (six i) ∷ hex_digit (five i) ∷ hex_digit (four i) ∷ hex_digit (three i) ∷ hex_digit (two i) ∷ hex_digit (n / 16) ∷ hex_digit n ∷ []

-- what `{:08x}` writes
pub hex_word : (n : ℕ) → n < 2 ^ 32 → padded_integral (format_spec 32 0 4 8 (2 ^ 64 - 1)) false [] (digits 16 false n) ≡ hex_text n
unfolding padded_integral char_count digits
hex_word n small =
    let all = digits_onto 64 16 false n [] in
    let padding : 8 - length all - 0 - 0 ≡ 8 - length all = omega arith in
    (λ i. replicate (padding i) 48 ++ append-nil all i)
    ∙ filled_up-digits 8 64 n [] (omega arith) (omega arith) (omega arith)
    ∙ hex_text-last_digits n
