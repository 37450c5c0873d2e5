-- Widths, and the digits that write them.
use Rattle.std.proofs.Common.{◌≡◌, ℕ, zero, suc, ◌+◌, ◌-◌, ◌*◌, ◌<◌, ◌≤◌, true, false, ◌&&◌, nat_le, [], ◌∷◌, length, get_or, fold, Some, None, refl, sym, ap, ◌∙◌, arith, leb-true, le-leb, take, drop, decimal}
use Rattle.std.specs.List.{list_all}
use Rattle.std.proofs.lemmas.Bool.{and_parts, and_from, and_right, lt-leb, false≢true}
use Rattle.std.proofs.lemmas.Fmt.{decimal-digits_value, decimal_nonempty, digits_decimal, digits_value-decimal, first_decimal}
use Rattle.std.proofs.lemmas.Str.Parse.{IsNumeralModel, IsDigitsTest, FoldsDigits, numerals_by_fold}
use Rattle.std.proofs.lemmas.List.{take-append-drop}
use Rattle.std.proofs.lemmas.List.Sums.{fold-append}
use Rattle.protocol.specs.JoinText.{width_of}
use Rattle.semantics.specs.Texts.{Text}
use Rattle.semantics.specs.Outputs.{is_digit, is_positive, digits_value}

-- a digit is a byte from 48 to 57
digit_within : (b : ℕ) → is_digit b ≡ true → (48 ≤ b) × (b ≤ 57)
digit_within b h = let p = and_parts (nat_le 48 b) (nat_le b 57) h in (leb-true 48 b p.0, leb-true b 57 p.1)

-- each byte of digits is one
pub digit_at : (t : Text) (i : ℕ) → list_all is_digit t ≡ true → i < length t → (48 ≤ get_or t i 0) × (get_or t i 0 ≤ 57)
digit_at [] i h l = absurd (omega arith)
digit_at (b ∷ bs) zero h l = digit_within b (and_parts (is_digit b) (list_all is_digit bs) h).0
digit_at (b ∷ bs) (suc i) h l = digit_at bs i (and_parts (is_digit b) (list_all is_digit bs) h).1 (omega arith)

-- a positive number is written in digits
pub positive_digits : (t : Text) → is_positive t ≡ true → list_all is_digit t ≡ true
positive_digits [] h = refl
positive_digits (b ∷ bs) h =
    let parts = and_parts (nat_le 49 b && nat_le b 57) (list_all is_digit bs) h in
    let first = and_parts (nat_le 49 b) (nat_le b 57) parts.0 in
    let low : nat_le 48 b ≡ true = le-leb 48 b (omega (arith, leb-true 49 b first.0)) in
    and_from _ _ (and_from _ _ low first.1) parts.1

-- digits behind a number do not make it less
pub digits_more : (n : ℕ) (t : Text) → n ≤ fold (λ n b. 10 * n + (b - 48)) n t
digits_more n [] = omega arith
digits_more n (b ∷ bs) = let more = digits_more (10 * n + (b - 48)) bs in omega arith

-- a number that is past a bound stays past it
pub digits_past : (t : Text) (i : ℕ) → digits_value (take i t) ≤ digits_value t
digits_past t i =
    let parts = fold-append (λ n b. 10 * n + (b - 48)) 0 (take i t) (drop i t) in
    let whole : digits_value t ≡ fold (λ n b. 10 * n + (b - 48)) (digits_value (take i t)) (drop i t) = ap digits_value (sym (take-append-drop i t)) ∙ parts in
    let more = digits_more (digits_value (take i t)) (drop i t) in
    omega arith

-- a number that is past 64 is no width
pub no_width_past : (t : Text) (i : ℕ) → 64 < digits_value (take i t) → width_of t ≡ None
no_width_past t i h =
    let more = digits_past t i in
    let past : nat_le (digits_value t) 64 ≡ false = lt-leb (digits_value t) 64 (omega arith) in
    rw (and_right (is_positive t) (nat_le (digits_value t) 64) past)

-- ---- the decimal of a width

own_test : IsDigitsTest (λ ds. list_all is_digit ds ≡ true)
own_test = record {
  empty = refl;
  parts = λ b bs h. let p = and_parts (is_digit b) (list_all is_digit bs) h in (digit_within b p.0, p.1);
  more = λ b bs r h. and_from _ _ (and_from _ _ (le-leb 48 b r.0) (le-leb b 57 r.1)) h;
}

own_fold : FoldsDigits (λ n ds. fold (λ n b. 10 * n + (b - 48)) n ds)
own_fold = record {
  empty = λ n. refl;
  more = λ n b bs r. let same : 10 * n + (b - 48) ≡ n * 10 + (b - 48) = omega arith in ap (λ m. fold (λ n b. 10 * n + (b - 48)) m bs) same;
}

own : IsNumeralModel (λ ds. list_all is_digit ds ≡ true) digits_value
own = numerals_by_fold (λ ds. list_all is_digit ds ≡ true) own_test (λ n ds. fold (λ n b. 10 * n + (b - 48)) n ds) own_fold

-- a positive number begins with a digit above 0
first_positive : (b : ℕ) (bs : Text) → is_positive (b ∷ bs) ≡ true → 49 ≤ b
first_positive b bs h =
    let parts = and_parts (nat_le 49 b && nat_le b 57) (list_all is_digit bs) h in
    leb-true 49 b (and_parts (nat_le 49 b) (nat_le b 57) parts.0).0

-- a positive number is not 0
pub one_le_positive : (t : Text) → is_positive t ≡ true → 1 ≤ digits_value t
one_le_positive [] h = absurd (false≢true h)
one_le_positive (b ∷ bs) h =
    let first = first_positive b bs h in
    let more = digits_more (10 * 0 + (b - 48)) bs in
    omega arith

-- a positive number of at most 64 is written as it stands
pub decimal-positive : (t : Text) → is_positive t ≡ true → digits_value t ≤ 64 → decimal (digits_value t) ≡ t
decimal-positive [] h small = absurd (false≢true h)
decimal-positive (b ∷ bs) h small =
    let first = first_positive b bs h in
    decimal-digits_value own (b ∷ bs) (positive_digits (b ∷ bs) h) (omega arith) (λ e. absurd (omega arith)) (omega arith)

-- ---- the width of a decimal

-- the decimal of a width is of digits
pub digits-decimal : (n : ℕ) → n ≤ 64 → list_all is_digit (decimal n) ≡ true
digits-decimal n h = digits_decimal own n (omega arith)

-- digits of which the first is above 0 are a positive number
positive_from : (t : Text) → list_all is_digit t ≡ true → 0 < length t → 48 < get_or t 0 0 → is_positive t ≡ true
positive_from [] h some first = absurd (omega arith)
positive_from (b ∷ bs) h some first =
    let parts = and_parts (is_digit b) (list_all is_digit bs) h in
    let within = digit_within b parts.0 in
    and_from _ _ (and_from _ _ (le-leb 49 b (omega arith)) (le-leb b 57 within.1)) parts.1

-- the decimal of a width writes that width
pub width_of-decimal : (n : ℕ) → 0 < n → n ≤ 64 → width_of (decimal n) ≡ Some n
width_of-decimal n some h =
    let positive = positive_from (decimal n) (digits-decimal n h) (decimal_nonempty n (omega arith)) (first_decimal n some (omega arith)) in
    let value = digits_value-decimal own n (omega arith) in
    rw (positive, value, le-leb n 64 h) refl
