-- The number of a text, and the decimal of a number.
use Rattle.std.proofs.Common.{◌≡◌, ℕ, zero, suc, ◌+◌, ◌-◌, ◌*◌, ◌^◌, ◌<◌, ◌≤◌, inl, inr, ℤ, pos, negsuc, neg_ℤ, Bool, true, false, cond, T, ◌&&◌, ◌||◌, ◌==◌, ne_eqb, eqb-true, nat_le, nat_lt, leb-true, le-leb, ltb-true, [], ◌∷◌, length, get_or, fold, codes, decimal, Option, Some, None, refl, sym, ap, subst, ◌∙◌, arith}
use Rattle.std.specs.List.{list_all}
use Rattle.std.specs.Fmt.{signed_decimal}
use Rattle.std.proofs.lemmas.Bool.{and_parts, and_from, or_cases, or_left, or_right, cond-true, cond-false, lt-ltb, false≢true}
use Rattle.std.proofs.lemmas.Fmt.{decimal_nonempty, decimal-digits_value, digits_decimal, digits_value-decimal, first_decimal, decimal_digit}
use Rattle.std.proofs.lemmas.Option.{none-some, cond_some}
use Rattle.std.proofs.lemmas.Str.Parse.{IsNumeralModel, numerals_by_fold}
use Rattle.semantics.specs.Texts.{Text, same}
use Rattle.semantics.specs.Outputs.{is_digit, is_positive, digits_value, unsigned_integer, negative_integer, canonical_integer}
use Rattle.semantics.proofs.PieceLemmas.{equal_by_same, same_by_equal}
use Rattle.growing_history.specs.IntegerLaws.{IsWithin64, CanonicalIntegerIsWritten, NoCanonicalInteger}

-- ---- digits

-- a digit is a byte from 48 to 57
digit_within : (b : ℕ) → is_digit b ≡ true → (48 ≤ b) × (b ≤ 57)
digit_within b h = let p = and_parts (nat_le 48 b) (nat_le b 57) h in (leb-true 48 b p.0, leb-true b 57 p.1)

-- texts of digits are numerals, and `digits_value` is their value
numerals : IsNumeralModel (λ ds. list_all is_digit ds ≡ true) digits_value
numerals = numerals_by_fold (λ ds. list_all is_digit ds ≡ true)
    (record {
      empty = refl;
      parts = λ b bs h. let p = and_parts (is_digit b) (list_all is_digit bs) h in (digit_within b p.0, p.1);
      more = λ b bs r h. and_from _ _ (and_from _ _ (le-leb 48 b r.0) (le-leb b 57 r.1)) h;
    })
    (λ n ds. fold (λ n b. 10 * n + (b - 48)) n ds)
    (record { empty = λ n. refl; more = λ n b bs r. let turned : 10 * n + (b - 48) ≡ n * 10 + (b - 48) = omega arith in ap (λ m. fold (λ n b. 10 * n + (b - 48)) m bs) turned })

-- a positive numeral is of digits, of which the first is not 0
record IsUnpadded (t : Text) : Type 0 where
  digits : list_all is_digit t ≡ true
  some : 0 < length t
  first : 48 < get_or t 0 0

unpadded-from_positive : (t : Text) → is_positive t ≡ true → IsUnpadded t
unpadded-from_positive [] h = absurd (false≢true h)
unpadded-from_positive (b ∷ bs) h =
    let parts = and_parts (nat_le 49 b && nat_le b 57) (list_all is_digit bs) h in
    let first = and_parts (nat_le 49 b) (nat_le b 57) parts.0 in
    let low = leb-true 49 b first.0 in
    record { digits = and_from _ _ (and_from _ _ (le-leb 48 b (omega arith)) first.1) parts.1; some = omega arith; first = omega arith }

positive-from_unpadded : (t : Text) → IsUnpadded t → is_positive t ≡ true
positive-from_unpadded [] u = absurd (let s = u.some in omega arith)
positive-from_unpadded (b ∷ bs) u =
    let parts = and_parts (is_digit b) (list_all is_digit bs) u.digits in
    let high = and_parts (nat_le 48 b) (nat_le b 57) parts.0 in
    and_from _ _ (and_from _ _ (le-leb 49 b (let f = u.first in omega arith)) high.1) parts.1

-- a positive numeral is the decimal of its value
decimal-positive : (t : Text) → is_positive t ≡ true → digits_value t < 2 ^ 64 → decimal (digits_value t) ≡ t
decimal-positive t h small =
    let u = unpadded-from_positive t h in
    decimal-digits_value numerals t u.digits u.some (λ e. absurd (let f = u.first in omega arith)) small

-- the decimal of a positive number is a positive numeral
positive-decimal : (n : ℕ) → 0 < n → n < 2 ^ 64 → is_positive (decimal n) ≡ true
positive-decimal n some small =
    positive-from_unpadded (decimal n) (record { digits = digits_decimal numerals n small; some = decimal_nonempty n small; first = first_decimal n some small })

-- the value of a number's decimal
value-decimal : (n : ℕ) → n < 2 ^ 64 → digits_value (decimal n) ≡ n
value-decimal n small = digits_value-decimal numerals n small

-- ---- within 64 bits

-- the fact from a test, and back
held : (b : Bool) → T b → b ≡ true
held true h = refl
held false h = absurd h

test : (b : Bool) → b ≡ true → T b
test true e = tt
test false e = absurd (false≢true e)

within_positive : (n : ℕ) → n < 2 ^ 63 → IsWithin64 (pos n)
within_positive n h = record { low = record { le = tt }; high = record { lt = test (nat_lt n (2 ^ 63)) (lt-ltb n (2 ^ 63) h) } }

positive_within : (n : ℕ) → IsWithin64 (pos n) → n < 2 ^ 63
positive_within n w = ltb-true n (2 ^ 63) (held (nat_lt n (2 ^ 63)) w.high.lt)

within_negative : (n : ℕ) → n < 2 ^ 63 → IsWithin64 (negsuc n)
within_negative n h = record { low = record { le = test (nat_le n (2 ^ 63 - 1)) (le-leb n (2 ^ 63 - 1) (omega arith)) }; high = record { lt = tt } }

negative_within : (n : ℕ) → IsWithin64 (negsuc n) → n < 2 ^ 63
negative_within n w = let below = leb-true n (2 ^ 63 - 1) (held (nat_le n (2 ^ 63 - 1)) w.low.le) in omega arith

-- ---- from a text to its number

-- a number that is the number of a text: within 64 bits, and the text is its decimal
abbrev IsNumberOf : Text → ℤ → Type 0
IsNumberOf t n = IsWithin64 n × (signed_decimal n ≡ t)

-- a text without a sign is the decimal of its number
unsigned_number : (t : Text) (n : ℤ) → unsigned_integer t ≡ Some n → IsNumberOf t n
unsigned_number t n h =
    let w = cond_some ((same t (codes "0") || is_positive t) && nat_lt (digits_value t) (2 ^ 63)) (pos (digits_value t)) n h in
    let parts = and_parts (same t (codes "0") || is_positive t) (nat_lt (digits_value t) (2 ^ 63)) w.0 in
    let small = ltb-true (digits_value t) (2 ^ 63) parts.1 in
    let written : decimal (digits_value t) ≡ t = elim (or_cases (same t (codes "0")) (is_positive t) parts.0) [
      | inl e ↦ (let zero_text = equal_by_same t (codes "0") e in ap (λ x. decimal (digits_value x)) zero_text ∙ decimal_digit 0 (omega arith) ∙ sym zero_text)
      | inr e ↦ decimal-positive t e (omega arith)
    ] in
    subst (IsNumberOf t) w.1 (within_positive (digits_value t) small, written)

-- what stands behind a minus sign makes the number
negative_by : (bs : Text) (m : ℕ) → decimal m ≡ bs → 0 < m → m ≤ 2 ^ 63 → IsNumberOf (45 ∷ bs) (neg_ℤ (pos m))
negative_by bs zero e some small = absurd (omega arith)
negative_by bs (suc m) e some small = (within_negative m (omega arith), ap (λ x. 45 ∷ x) e)

-- digits behind a number do not make it less
digits_more : (n : ℕ) (bs : Text) → n ≤ fold (λ n b. 10 * n + (b - 48)) n bs
digits_more n [] = omega arith
digits_more n (b ∷ bs) = let more = digits_more (10 * n + (b - 48)) bs in omega arith

-- a positive numeral has a value above 0
positive_value : (t : Text) → IsUnpadded t → 0 < digits_value t
positive_value [] u = absurd (let s = u.some in omega arith)
positive_value (b ∷ bs) u = let more = digits_more (10 * 0 + (b - 48)) bs in let first = u.first in omega arith

negative_number : (bs : Text) (n : ℤ) → negative_integer bs ≡ Some n → IsNumberOf (45 ∷ bs) n
negative_number bs n h =
    let w = cond_some (is_positive bs && nat_le (digits_value bs) (2 ^ 63)) (neg_ℤ (pos (digits_value bs))) n h in
    let parts = and_parts (is_positive bs) (nat_le (digits_value bs) (2 ^ 63)) w.0 in
    let small = leb-true (digits_value bs) (2 ^ 63) parts.1 in
    subst (IsNumberOf (45 ∷ bs)) w.1
    (negative_by bs (digits_value bs) (decimal-positive bs parts.0 (omega arith)) (positive_value bs (unpadded-from_positive bs parts.0)) small)

-- a text that has a number is the decimal of it
number_of_text : (t : Text) (n : ℤ) → canonical_integer t ≡ Some n → IsNumberOf t n
unfolding canonical_integer
number_of_text [] n h = absurd (none-some n h)
number_of_text (b ∷ bs) n h = by_sign b bs n (b == 45) refl h
  where
    by_sign : (b : ℕ) (bs : Text) (n : ℤ) (s : Bool) → b == 45 ≡ s → cond s (negative_integer bs) (unsigned_integer (b ∷ bs)) ≡ Some n → IsNumberOf (b ∷ bs) n
    by_sign b bs n true e h = subst (λ x. IsNumberOf (x ∷ bs) n) (sym (eqb-true b 45 e)) (negative_number bs n h)
    by_sign b bs n false e h = unsigned_number (b ∷ bs) n h

-- ---- from a number to its decimal

-- a test of two parts that hold makes its value
both_hold : (a b : Bool) (x : ℤ) → a ≡ true → b ≡ true → cond (a && b) (Some x) None ≡ Some x
both_hold a b x e f = cond-true (a && b) (Some x) None (and_from a b e f)

-- the decimal of a number without a sign is read back
unsigned-decimal : (n : ℕ) → n < 2 ^ 63 → unsigned_integer (decimal n) ≡ Some (pos n)
unsigned-decimal n small =
    let value = value-decimal n (omega arith) in
    both_hold (same (decimal n) (codes "0") || is_positive (decimal n)) (nat_lt (digits_value (decimal n)) (2 ^ 63)) (pos (digits_value (decimal n)))
    (shape n (omega arith)) (lt-ltb (digits_value (decimal n)) (2 ^ 63) (omega arith))
    ∙ ap (λ m. Some (pos m)) value
  where
    shape : (n : ℕ) → n < 2 ^ 64 → (same (decimal n) (codes "0") || is_positive (decimal n)) ≡ true
    shape zero small = or_left _ _ (same_by_equal (decimal 0) (codes "0") (decimal_digit 0 (omega arith)))
    shape (suc n) small = or_right _ _ (positive-decimal (suc n) (omega arith) small)

negative-decimal : (n : ℕ) → n < 2 ^ 63 → negative_integer (decimal (suc n)) ≡ Some (negsuc n)
negative-decimal n small =
    let value = value-decimal (suc n) (omega arith) in
    both_hold (is_positive (decimal (suc n))) (nat_le (digits_value (decimal (suc n))) (2 ^ 63)) (neg_ℤ (pos (digits_value (decimal (suc n)))))
    (positive-decimal (suc n) (omega arith) (omega arith)) (le-leb (digits_value (decimal (suc n))) (2 ^ 63) (omega arith))
    ∙ ap (λ m. Some (neg_ℤ (pos m))) value

-- a text of digits has no sign
canonical-unsigned : (t : Text) → list_all is_digit t ≡ true → 0 < length t → canonical_integer t ≡ unsigned_integer t
unfolding canonical_integer
canonical-unsigned [] h some = absurd (omega arith)
canonical-unsigned (b ∷ bs) h some =
    let within = digit_within b (and_parts (is_digit b) (list_all is_digit bs) h).0 in
    cond-false (b == 45) (negative_integer bs) (unsigned_integer (b ∷ bs)) (ne_eqb b 45 (λ e. absurd (omega arith)))

-- the decimal of a number within 64 bits has that number
number_of_decimal : (n : ℤ) → IsWithin64 n → canonical_integer (signed_decimal n) ≡ Some n
unfolding canonical_integer
number_of_decimal (pos n) w =
    let small = positive_within n w in
    canonical-unsigned (decimal n) (digits_decimal numerals n (omega arith)) (decimal_nonempty n (omega arith)) ∙ unsigned-decimal n small
number_of_decimal (negsuc n) w = negative-decimal n (negative_within n w)

-- ---- the laws

-- the number of a text is n exactly where n is within 64 bits and the text is its decimal
pub canonical_integer_is_written_lem : CanonicalIntegerIsWritten
canonical_integer_is_written_lem t n = (number_of_text t n, λ w. ap canonical_integer (sym w.1) ∙ number_of_decimal n w.0)

-- a text has no number exactly where it is the decimal of none
pub no_canonical_integer_lem : NoCanonicalInteger
no_canonical_integer_lem t = (λ e n w is. none-some n (sym e ∙ ap canonical_integer (sym is) ∙ number_of_decimal n w), none_by t (canonical_integer t) refl)
  where
    none_by : (t : Text) (o : Option ℤ) → canonical_integer t ≡ o → ((n : ℤ) → IsWithin64 n → signed_decimal n ≡ t → ⊥) → o ≡ None
    none_by t None e absent = refl
    none_by t (Some n) e absent = let w = number_of_text t n e in absurd (absent n w.0 w.1)
