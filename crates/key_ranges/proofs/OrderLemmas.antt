-- The order of texts by its tests: what follows from what, and the greater and the lesser of two texts.
use Rattle.std.proofs.Common.{◌≡◌, Bool, true, false, cond, not, ◌&&◌, ◌||◌, refl, sym, ap, ◌∙◌, Ordering, Less, Equal, Greater, is_lt, is_eq}
use Rattle.std.specs.Ordering.{is_le, ordering_reverse}
use Rattle.std.specs.BTreeMap.Comparable.{le_lt_trans}
use Rattle.std.proofs.lemmas.Bool.{false≢true, not-false, true_from_ne_false}
use Rattle.semantics.specs.Texts.{Text, same, text_cmp}
use Rattle.semantics.proofs.TableLemmas.{text_total, same_is_tie, tie_itself}
use Rattle.key_ranges.specs.Ranges.{is_below, later, earlier}

-- whether the first text is the second, or below it
abbrev pub is_up_to : Text → Text → Bool
is_up_to a b = is_le (text_cmp a b)

-- ---- what follows from what

-- an answer that passes the test is the one tested for
less_from : (o : Ordering) → is_lt o ≡ true → o ≡ Less
less_from Less h = refl
less_from Equal h = absurd (false≢true h)
less_from Greater h = absurd (false≢true h)

-- what is below is also up to
le_from_lt : (o : Ordering) → is_lt o ≡ true → is_le o ≡ true
le_from_lt Less h = refl
le_from_lt Equal h = absurd (false≢true h)
le_from_lt Greater h = absurd (false≢true h)

-- the one test passes where the other fails the other way round
le_reversed : (o : Ordering) → is_le o ≡ not (is_lt (ordering_reverse o))
le_reversed Less = refl
le_reversed Equal = refl
le_reversed Greater = refl

-- a text is up to another exactly where the other is not below it
pub up_to-not_below : (a b : Text) → is_up_to a b ≡ not (is_below b a)
up_to-not_below a b = le_reversed (text_cmp a b) ∙ ap (λ o. not (is_lt o)) (sym (text_total.antisymm b a))

-- a text above another is not up to it
pub not_up_to_from_below : (a b : Text) → is_below a b ≡ true → is_up_to b a ≡ false
not_up_to_from_below a b h = up_to-not_below b a ∙ ap not h

-- of two texts one is below the other, or the other is up to it
pub up_to_from_not_below : (a b : Text) → is_below a b ≡ false → is_up_to b a ≡ true
up_to_from_not_below a b h = up_to-not_below b a ∙ ap not h

-- a text that is not up to another is above it
pub below_from_not_up_to : (a b : Text) → is_up_to a b ≡ false → is_below b a ≡ true
below_from_not_up_to a b h = not-false (is_below b a) (sym (up_to-not_below a b) ∙ h)

-- a text is up to itself
pub up_to_itself : (a : Text) → is_up_to a a ≡ true
up_to_itself a = ap is_le (tie_itself a)

-- a text below another is up to it
pub up_to_from_below : (a b : Text) → is_below a b ≡ true → is_up_to a b ≡ true
up_to_from_below a b h = le_from_lt (text_cmp a b) h

-- what is up to a text below a third is below the third
pub up_to_below : (a b c : Text) → is_up_to a b ≡ true → is_below b c ≡ true → is_below a c ≡ true
up_to_below a b c h g = ap is_lt (le_lt_trans text_total a b c h (less_from (text_cmp b c) g))

-- what is below a text up to a third is below the third
pub below_up_to : (a b c : Text) → is_below a b ≡ true → is_up_to b c ≡ true → is_below a c ≡ true
below_up_to a b c h g = true_from_ne_false (is_below a c) (λ e.
    false≢true (sym (not_up_to_from_below c b (up_to_below c a b (up_to_from_not_below a c e) h)) ∙ g))

-- what is up to a text up to a third is up to the third
pub up_to_trans : (a b c : Text) → is_up_to a b ≡ true → is_up_to b c ≡ true → is_up_to a c ≡ true
up_to_trans a b c h g = true_from_ne_false (is_up_to a c) (λ e.
    false≢true (sym (not_up_to_from_below c b (below_up_to c a b (below_from_not_up_to a c e) h)) ∙ g))

-- what is up to another is below it or ties with it
le_is : (o : Ordering) → is_le o ≡ (is_lt o || is_eq o)
le_is Less = refl
le_is Equal = refl
le_is Greater = refl

-- a text is up to another exactly where it is below it or the same
pub up_to_is : (a b : Text) → is_up_to a b ≡ (is_below a b || same a b)
up_to_is a b = le_is (text_cmp a b) ∙ ap (λ x. is_below a b || x) (sym (same_is_tie a b))

-- ---- the greater and the lesser of two texts

-- a test that fails only where a second one fails too adds nothing to the second
and_weaker_left : (x y : Bool) → (y ≡ true → x ≡ true) → (x && y) ≡ y
and_weaker_left true y h = refl
and_weaker_left false true h = h refl
and_weaker_left false false h = refl

-- the same, the other way round
and_weaker_right : (x y : Bool) → (x ≡ true → y ≡ true) → (x && y) ≡ x
and_weaker_right true y h = h refl
and_weaker_right false y h = refl

-- the greater text, whichever it is
later_by : (a b k : Text) (x : Bool) → is_below a b ≡ x → is_up_to (cond x b a) k ≡ (is_up_to a k && is_up_to b k)
later_by a b k true e = sym (and_weaker_left (is_up_to a k) (is_up_to b k) (λ h. up_to_trans a b k (up_to_from_below a b e) h))
later_by a b k false e = sym (and_weaker_right (is_up_to a k) (is_up_to b k) (λ h. up_to_trans b a k (up_to_from_not_below a b e) h))

-- the greater of two texts is up to a third exactly where both are
pub later_up_to : (a b k : Text) → is_up_to (later a b) k ≡ (is_up_to a k && is_up_to b k)
later_up_to a b k = later_by a b k (is_below a b) refl

-- the lesser text, whichever it is
earlier_by : (a b k : Text) (x : Bool) → is_below b a ≡ x → is_below k (cond x b a) ≡ (is_below k a && is_below k b)
earlier_by a b k true e = sym (and_weaker_left (is_below k a) (is_below k b) (λ h. below_up_to k b a h (up_to_from_below b a e)))
earlier_by a b k false e = sym (and_weaker_right (is_below k a) (is_below k b) (λ h. below_up_to k a b h (up_to_from_not_below b a e)))

-- a text is below the lesser of two exactly where it is below both
pub below_earlier : (a b k : Text) → is_below k (earlier a b) ≡ (is_below k a && is_below k b)
below_earlier a b k = earlier_by a b k (is_below b a) refl
