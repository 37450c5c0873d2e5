-- The bounds of a narrowed range are those of the containing range.
use Rattle.std.proofs.Common.{◌≡◌, ◌<◌, ◌≤◌, ℕ, Bool, true, false, cond, not, ◌&&◌, ◌==◌, nat_le, [], ◌∷◌, ◌++◌, length, Option, Some, None, option_map, option_and_then, Result, IfOk, refl, sym, ap, ◌∙◌, subst, arith, length-append, le-leb}
use Rattle.std.specs.List.{join_with_byte}
use Rattle.std.specs.Option.{IfSome}
use Rattle.std.proofs.lemmas.Bool.{ne_eqb, lt-leb}
use Rattle.std.proofs.lemmas.Result.{IfOk-weaker}
use Rattle.semantics.specs.Texts.{Text, bar, brace, is_range, Range}
use Rattle.semantics.specs.Patterns.{slot, Pattern, Slots, is_pattern, short}
use Rattle.key_ranges.specs.Ranges.{is_below, prefix_range}
use Rattle.key_ranges.specs.Containing.{fixed_texts, pattern_range, narrowing_width, whole_beginning, low_rest, high_rest, narrowed_end, low_or, high_or, narrowed, narrowed_by, containing}
use Rattle.key_ranges.specs.ContainingLaws.{HoldsTogether}
use Rattle.key_ranges.proofs.OrderLemmas.{is_up_to, up_to-not_below}
use Rattle.key_ranges.proofs.PrefixLemmas.{closed_push}
use Rattle.key_ranges.proofs.OpenLemmas.{open_fewer, narrows_by}
use Rattle.key_ranges.proofs.NarrowedLemmas.{ends_of, narrowed_ascend, containing_holds, containing_is_range}
use Rattle.key_pattern.specs.Shared.{bounds}
use Rattle.key_pattern.specs.declared.narrowing.Narrowing.{Narrowing}
use Rattle.key_pattern.specs.Narrowing.{end_text, HasEnds, bound_or, narrowed_bounds, bounds_with, EndsFit}
use Rattle.key_pattern.proofs.FixedLemmas.{pattern_range_beginning}

-- ---- the last bound

-- a test that is passed adds nothing
and_true : (x y : Bool) → y ≡ true → (x && y) ≡ x
and_true true y h = h
and_true false y h = refl

-- a last bound that is not below the first is chosen by its length alone
high_is_short : (low before : Text) (o : Option Text) → IfSome o (λ t. is_up_to low t ≡ true) → high_or low before o ≡ bound_or before o
high_is_short low before None h = refl
high_is_short low before (Some t) h =
    ap (λ x. cond x t before) (and_true (nat_le (length t) 513) (not (is_below t low)) (sym (up_to-not_below low t) ∙ h))

-- ---- both bounds

-- the prefix range of a text and `|`, narrowed
bounds_are : (n : ℕ) (range : Range) (front : Text) → is_range range.low range.high ≡ true
    → narrowed n range (prefix_range (front ++ bar ∷ [])) ≡ narrowed_bounds front (whole_beginning n (low_rest range)) (option_and_then (narrowed_end n) (high_rest range))
bounds_are n range front ok =
    let r = front ++ bar ∷ [] in
    let low = low_or (r ++ whole_beginning n (low_rest range)) r in
    let end = option_map (λ end. r ++ end) (option_and_then (narrowed_end n) (high_rest range)) in
    let over : IfSome end (λ t. is_up_to low t ≡ true) = ends_of (λ t. is_up_to low t ≡ true) n r (high_rest range) (λ rest end e f. narrowed_ascend n range r rest end ok e f) in
    ap (bounds low) (ap (λ t. high_or low t end) (closed_push front bar) ∙ high_is_short low (front ++ brace ∷ []) end over)

-- of a text that is short or not
range_by : (n : ℕ) (range : Range) (t : Text) (b : Range) (x : Bool) → narrowed n range (prefix_range t) ≡ b
    → option_map (narrowed_by (Some n) range) (option_map prefix_range (cond x (Some t) None)) ≡ option_map (λ _. b) (cond x (Some t) None)
range_by n range t b true e = ap Some e
range_by n range t b false e = refl

-- where a slot of n bytes narrows the source's range, it is that of the bounds that go on from the fixed texts
pub containing_narrowed : (source : Pattern) (given : Slots) (output : Pattern) (range : Range) (n : ℕ) (front low : Text) (high : Option Text) → is_range range.low range.high ≡ true
    → narrowing_width source given output range ≡ Some n → front ≡ join_with_byte bar (fixed_texts source given) → low ≡ whole_beginning n (low_rest range) → high ≡ option_and_then (narrowed_end n) (high_rest range)
    → containing source given output range ≡ option_map (λ _. narrowed_bounds front low high) (short (front ++ bar ∷ []))
unfolding containing
containing_narrowed source given output range n front low high ok wide is_front is_low is_high =
    let by = narrows_by source given output range n wide in
    let less = open_fewer source given (slot by.place n) by.first in
    let apart : (length (fixed_texts source given) == length source) ≡ false = ne_eqb _ _ (λ e. omega (arith, less, e)) in
    let t = front ++ bar ∷ [] in
    ap (λ w. option_map (narrowed_by w range) (pattern_range source given)) wide
    ∙ ap (option_map (narrowed_by (Some n) range)) (pattern_range_beginning source given front is_front apart)
    ∙ range_by n range t (narrowed_bounds front (whole_beginning n (low_rest range)) (option_and_then (narrowed_end n) (high_rest range))) (nat_le (length t) 512) (bounds_are n range front ok)
    ∙ ap (λ l. option_map (λ _. narrowed_bounds front l (option_and_then (narrowed_end n) (high_rest range))) (short t)) (sym is_low)
    ∙ ap (λ h. option_map (λ _. narrowed_bounds front low h) (short t)) (sym is_high)

-- such bounds are a range
pub bounds_are_range : (source : Pattern) (given : Slots) (output : Pattern) (range b : Range) (front : Text) → is_pattern source ≡ true → is_pattern output ≡ true → is_range range.low range.high ≡ true
    → containing source given output range ≡ option_map (λ _. b) (short (front ++ bar ∷ [])) → length front < 512 → is_range b.low b.high ≡ true
bounds_are_range source given output range b front ok output_ok range_ok e small =
    let fits : nat_le (length (front ++ bar ∷ [])) 512 ≡ true = le-leb (length (front ++ bar ∷ [])) 512 (omega (arith, small, length-append front (bar ∷ []))) in
    let some : containing source given output range ≡ Some b = e ∙ ap (λ x. option_map (λ _. b) (cond x (Some (front ++ bar ∷ [])) None)) fits in
    subst (λ o. IfSome o (λ r. is_range r.low r.high ≡ true)) some (containing_is_range source given output range ok output_ok range_ok)

-- there are none where the text and `|` have more than 512 bytes
pub bounds_none : (front : Text) (b : Range) → 512 ≤ length front → None ≡ option_map (λ _. b) (short (front ++ bar ∷ []))
bounds_none front b long =
    let over : nat_le (length (front ++ bar ∷ [])) 512 ≡ false = lt-leb (length (front ++ bar ∷ [])) 512 (omega (arith, long, length-append front (bar ∷ []))) in
    sym (ap (λ x. option_map (λ _. b) (cond x (Some (front ++ bar ∷ [])) None)) over)

-- and otherwise some
pub bounds_some : (front : Text) (b : Range) → length front < 512 → Some b ≡ option_map (λ _. b) (short (front ++ bar ∷ []))
bounds_some front b small =
    let fits : nat_le (length (front ++ bar ∷ [])) 512 ≡ true = le-leb (length (front ++ bar ∷ [])) 512 (omega (arith, small, length-append front (bar ∷ []))) in
    sym (ap (λ x. option_map (λ _. b) (cond x (Some (front ++ bar ∷ [])) None)) fits)

-- ---- the ends that narrow

-- ends of a source and an output, which are these
pub ends_of_both : (p q source output : Pattern) (given : Slots) (range : Range) (ends : Narrowing) → p ≡ source → q ≡ output → HasEnds p given q range ends → HasEnds source given output range ends
ends_of_both p q source output given range ends e f h =
    subst (λ o. HasEnds source given o range ends) f (subst (λ s. HasEnds s given q range ends) e h)

-- the containing range is that of the bounds that go on with the ends
pub containing_with : (source : Pattern) (given : Slots) (output : Pattern) (range : Range) (ends : Narrowing) (front : Text) → front ≡ join_with_byte bar (fixed_texts source given) → HasEnds source given output range ends
    → containing source given output range ≡ option_map (λ _. bounds_with front ends) (short (front ++ bar ∷ []))
containing_with source given output range ends front e h =
    containing_narrowed source given output range h.width front ends.low.now (option_map end_text ends.high) h.ordered h.narrows e h.low h.high

-- these bounds are a range
pub ends_fit : (source : Pattern) (given : Slots) (output : Pattern) (range : Range) (ends : Narrowing) (front : Text) → is_pattern source ≡ true → is_pattern output ≡ true → front ≡ join_with_byte bar (fixed_texts source given)
    → HasEnds source given output range ends → EndsFit front ends
ends_fit source given output range ends front ok output_ok e h =
    λ small. bounds_are_range source given output range (bounds_with front ends) front ok output_ok h.ordered (containing_with source given output range ends front e h) small

-- where nothing narrows a range it stays
stays : (range : Range) (o : Option Range) → option_map (narrowed_by None range) o ≡ o
stays range None = refl
stays range (Some whole) = refl

-- where nothing narrows the source's range, it is its prefix range
pub containing_whole : (source : Pattern) (given : Slots) (output : Pattern) (range : Range) → narrowing_width source given output range ≡ None → containing source given output range ≡ pattern_range source given
unfolding containing
containing_whole source given output range none =
    ap (λ w. option_map (narrowed_by w range) (pattern_range source given)) none ∙ stays range (pattern_range source given)

-- where an answer is the containing range, each key that fits together with an output key of the range lies in it
pub together_from_exact : {E : Type 0} (source : Pattern) (given : Slots) (output : Pattern) (range : Range) (r : Result (Option Range) E) → is_pattern source ≡ true → is_pattern output ≡ true → is_range range.low range.high ≡ true
    → IfOk r (λ found. found ≡ containing source given output range) → IfOk r (λ found. (more : Slots) (key out : Text) → HoldsTogether source given output range found more key out)
together_from_exact source given output range r ok output_ok range_ok h =
    IfOk-weaker r (λ found. found ≡ containing source given output range) (λ found. (more : Slots) (key out : Text) → HoldsTogether source given output range found more key out)
    (λ found e more key out. subst (λ x. HoldsTogether source given output range x more key out) (sym e) (containing_holds source given more output range key out ok output_ok range_ok)) h
