-- The texts of the keys that the load writes.
use Rattle.std.proofs.Common.{◌≡◌, ℕ, ◌+◌, ◌-◌, ◌<◌, ◌≤◌, ◌^◌, true, false, ◌||◌, ◌==◌, [], ◌∷◌, ◌++◌, length, replicate, decimal, refl, sym, ap, ◌∙◌, subst, arith, append-nil, length-append, le-leb}
use Rattle.std.specs.Fmt.{format_spec, styled_decimal, padded_integral, char_count}
use Rattle.std.proofs.lemmas.Bool.{and_from}
use Rattle.std.proofs.lemmas.Fmt.{length-decimal-le}
use Rattle.std.proofs.lemmas.List.{length-replicate}
use Rattle.semantics.specs.Texts.{Text, bar, is_key, is_value}
use Rattle.key_ranges.proofs.ContainingLemmas.{names_from_name}
use Rattle.load_gen.specs.Keys.{padded}

-- four digits
pub four_digits : (n : ℕ) → styled_decimal (format_spec 32 0 4 4 (2 ^ 64 - 1)) n ≡ padded 4 n
unfolding padded_integral char_count
four_digits n =
    let none : 4 - length (decimal n) - 0 - 0 ≡ 4 - length (decimal n) = omega arith in
    ap (λ (k : ℕ). replicate k 48 ++ (decimal n ++ [])) none ∙ ap (λ (t : Text). replicate (4 - length (decimal n)) 48 ++ t) (append-nil (decimal n))

-- eight digits
pub eight_digits : (n : ℕ) → styled_decimal (format_spec 32 0 4 8 (2 ^ 64 - 1)) n ≡ padded 8 n
unfolding padded_integral char_count
eight_digits n =
    let none : 8 - length (decimal n) - 0 - 0 ≡ 8 - length (decimal n) = omega arith in
    ap (λ (k : ℕ). replicate k 48 ++ (decimal n ++ [])) none ∙ ap (λ (t : Text). replicate (8 - length (decimal n)) 48 ++ t) (append-nil (decimal n))

-- a number of 32 bits has at most ten digits
short_decimal : (n : ℕ) → n < 2 ^ 32 → length (decimal n) ≤ 10
short_decimal n h = length-decimal-le 10 n (omega arith) (omega arith) (omega arith)

-- and at most as many more as zeros in front
short_padded : (width n : ℕ) → n < 2 ^ 32 → length (padded width n) ≤ width + 10
short_padded width n h =
    let digits = short_decimal n h in
    let both = length-append (replicate (width - length (decimal n)) 48) (decimal n) in
    let zeros : length (replicate {A = ℕ} (width - length (decimal n)) 48) ≡ width - length (decimal n) = length-replicate (width - length (decimal n)) 48 in
    omega arith

-- a letter, and two such numbers, are a key
pub row_is_key : (letter width first second : ℕ) → (letter == bar) ≡ false → width ≤ 8 → first < 2 ^ 32 → second < 2 ^ 32 → is_key (letter ∷ bar ∷ (padded 4 first ++ bar ∷ padded width second)) ≡ true
row_is_key letter width first second other small h g =
    let rest : Text = padded 4 first ++ bar ∷ padded width second in
    let both = length-append (padded 4 first) (bar ∷ padded width second) in
    let one = short_padded 4 first h in
    let two = short_padded width second g in
    let short : length (letter ∷ bar ∷ rest) ≤ 512 = omega arith in
    and_from _ _ (le-leb (length (letter ∷ bar ∷ rest)) 512 short) (names_from_name (letter ∷ []) rest refl refl (ap (λ x. x || false) other))

-- a text that is written of such numbers
pub row_text : (letter width first second : ℕ) (text bytes one two : Text) → one ≡ padded 4 first → two ≡ padded width second → text ≡ bytes → bytes ≡ letter ∷ bar ∷ (one ++ bar ∷ two) →
    text ≡ letter ∷ bar ∷ (padded 4 first ++ bar ∷ padded width second)
row_text letter width first second text bytes one two is_one is_two same is =
    same ∙ is ∙ ap (λ (d : Text). letter ∷ bar ∷ (d ++ bar ∷ two)) is_one ∙ ap (λ (d : Text). letter ∷ bar ∷ (padded 4 first ++ bar ∷ d)) is_two

-- a letter and a number are a value
pub post_is_value : (letter n : ℕ) (text bytes : Text) → n < 2 ^ 32 → text ≡ bytes → bytes ≡ letter ∷ decimal n → is_value text ≡ true
post_is_value letter n text bytes h same is =
    let digits = short_decimal n h in
    let short : length (letter ∷ decimal n) ≤ 65536 = omega arith in
    subst (λ (t : Text). is_value t ≡ true) (sym (same ∙ is)) (le-leb (length (letter ∷ decimal n)) 65536 short)
