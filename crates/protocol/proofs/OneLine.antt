-- The compact text of a value has no byte 10, so it stands on one line.
use Rattle.std.proofs.Common.{◌≡◌, ℕ, zero, suc, ◌/◌, ◌%◌, ◌<◌, ◌≤◌, ◌==◌, ◌⊎◌, inl, inr, pos, negsuc, [], ◌∷◌, ◌++◌, Bool, true, false, cond, decimal, refl, ap, ◌∙◌, arith}
use Rattle.std.proofs.lemmas.Bool.{cases_lt, ne_eqb, or_from, agree_below_at}
use Rattle.std.proofs.lemmas.List.Folds.{list_any-append}
use Rattle.std.specs.List.{list_any}
use Rattle.std.specs.Fmt.{digits, digits_onto, digit_glyph}
use Rattle.json.specs.Print.{escape_byte, escape, quoted}
use Rattle.json.proofs.Printed.Strings.{escape_byte_plain}
use Rattle.serde_json.specs.Data.{Num, unsigned, negative, float, Data, null, boolean, number, string, array, object, Items, no_items, item, Members, no_members, member}
use Rattle.serde_json.specs.Written.{number_text, comma_if, compact_text, items_text, members_text}
use Rattle.semantics.specs.Texts.{Text}

-- whether the byte 10 stands in a text
abbrev pub has_feed : Text → Bool
has_feed = list_any (λ b. b == 10)

-- two texts without it are one without it
pub has_feed-append : (front back : Text) → has_feed front ≡ false → has_feed back ≡ false → has_feed (front ++ back) ≡ false
has_feed-append front back h k = list_any-append (λ b. b == 10) front back ∙ or_from _ _ h k

-- no digit is the byte 10
feedless_glyph : (n : ℕ) → (digit_glyph false (n % 10) == 10) ≡ false
feedless_glyph n = agree_below_at (λ d. digit_glyph false d == 10) (λ d. false) 10 (n % 10) refl (omega arith)

-- of two texts without it, either is without it
either_feedless : (b : Bool) (front back : Text) → has_feed front ≡ false → has_feed back ≡ false → has_feed (cond b front back) ≡ false
either_feedless true front back h k = h
either_feedless false front back h k = k

-- digits before a text without it
feedless_digits : (k n : ℕ) (after : Text) → has_feed after ≡ false → has_feed (digits_onto k 10 false n after) ≡ false
feedless_digits zero n after h = h
feedless_digits (suc k) n after h =
    let onto : has_feed (digit_glyph false (n % 10) ∷ after) ≡ false = or_from _ _ (feedless_glyph n) h in
    either_feedless (n / 10 == 0) _ _ onto (feedless_digits k (n / 10) _ onto)

-- a number in decimal has no byte 10, however large it is
pub has_feed-decimal : (n : ℕ) → has_feed (decimal n) ≡ false
unfolding digits
has_feed-decimal n = feedless_digits 64 n [] refl

-- nor has the text of a number
has_feed-number_text : (n : Num) → has_feed (number_text n) ≡ false
has_feed-number_text (unsigned n) = has_feed-decimal n
has_feed-number_text (negative (pos n)) = has_feed-decimal n
has_feed-number_text (negative (negsuc n)) = has_feed-decimal (suc n)
has_feed-number_text (float x) = refl

-- what stands in a string for a byte has no byte 10, as the byte 10 itself is escaped
feedless_plain : (x : ℕ) → (x < 93) ⊎ (93 ≤ x) → has_feed (escape_byte x) ≡ false
unfolding escape_byte
feedless_plain x (inl low) = agree_below_at (λ b. has_feed (escape_byte b)) (λ b. false) 93 x refl low
feedless_plain x (inr high) =
    ap has_feed (escape_byte_plain x (λ e. omega arith) (λ e. omega arith) (omega arith)) ∙ or_from _ _ (ne_eqb x 10 (λ e. omega arith)) refl

-- nor has an escaped text
has_feed-escape : (s : Text) → has_feed (escape s) ≡ false
has_feed-escape [] = refl
has_feed-escape (x ∷ s) = has_feed-append (escape_byte x) (escape s) (feedless_plain x (cases_lt x 93)) (has_feed-escape s)

-- nor has a text in quotes
has_feed-quoted : (s : Text) → has_feed (quoted s) ≡ false
has_feed-quoted s = has_feed-append (escape s) (34 ∷ []) (has_feed-escape s) refl

-- nor has a comma
has_feed-comma_if : (later : Bool) → has_feed (comma_if later) ≡ false
has_feed-comma_if true = refl
has_feed-comma_if false = refl

mutual
  pub has_feed-compact_text : (d : Data) → has_feed (compact_text d) ≡ false
  has_feed-compact_text null = refl
  has_feed-compact_text (boolean true) = refl
  has_feed-compact_text (boolean false) = refl
  has_feed-compact_text (number n) = has_feed-number_text n
  has_feed-compact_text (string s) = has_feed-quoted s
  has_feed-compact_text (array ds) = has_feed-items_text false ds
  has_feed-compact_text (object ms) = has_feed-members_text false ms

  has_feed-items_text : (later : Bool) (ds : Items) → has_feed (items_text later ds) ≡ false
  has_feed-items_text later no_items = refl
  has_feed-items_text later (item d ds) =
      has_feed-append (comma_if later) _ (has_feed-comma_if later) (has_feed-append (compact_text d) _ (has_feed-compact_text d) (has_feed-items_text true ds))

  has_feed-members_text : (later : Bool) (ms : Members) → has_feed (members_text later ms) ≡ false
  has_feed-members_text later no_members = refl
  has_feed-members_text later (member k d ms) =
      has_feed-append (comma_if later) _ (has_feed-comma_if later)
      (has_feed-append (quoted k) _ (has_feed-quoted k) (has_feed-append (compact_text d) _ (has_feed-compact_text d) (has_feed-members_text true ms)))
