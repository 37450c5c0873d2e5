-- The texts of the longest beginning of a pattern that slots fix, joined one by one.
use Rattle.std.proofs.Common.{◌≡◌, ℕ, ◌+◌, ◌<◌, ◌≤◌, Bool, true, false, ◌==◌, [], ◌∷◌, ◌++◌, length, drop, get_or, Option, Some, None, is_some, option_map, Result, IfOk, refl, sym, ap, ◌∙◌, subst, append_assoc, append-nil, arith, eq-eqb}
use Rattle.std.specs.List.{join_with_byte}
use Rattle.std.specs.Option.{IsSomeAnd}
use Rattle.std.proofs.lemmas.Bool.{false≢true, ne_eqb}
use Rattle.std.proofs.lemmas.List.{drop_all}
use Rattle.std.proofs.lemmas.Option.{none-some, same_Some}
use Rattle.std.proofs.lemmas.Result.{IfOk-weaker}
use Rattle.semantics.specs.Texts.{Text, bar, Range, within}
use Rattle.semantics.specs.Patterns.{Segment, literal, slot, Pattern, Slots, is_pattern, bind, short}
use Rattle.semantics.proofs.PatternLemmas.{bind_some, segments_of_pattern}
use Rattle.key_ranges.specs.Ranges.{just, prefix_range}
use Rattle.key_ranges.specs.Containing.{fixed_texts, pattern_range}
use Rattle.key_ranges.specs.ContainingLaws.{HoldsFitting}
use Rattle.key_ranges.proofs.ContainingLemmas.{pattern_range_holds}
use Rattle.key_pattern.specs.Fixed.{fixed_text, AddsFixed}
use Rattle.key_pattern.proofs.JoinedTexts.{joined_after, joined_nothing}
use Rattle.key_pattern.proofs.WalkLemmas.{left_at}

-- a segment with a text goes on with the fixed texts
fixed_more : (s : Segment) (ss : Pattern) (given : Slots) (t : Text) → fixed_text s given ≡ Some t → fixed_texts (s ∷ ss) given ≡ t ∷ fixed_texts ss given
fixed_more (literal l) ss given t e = ap (λ u. u ∷ fixed_texts ss given) (same_Some l t e)
fixed_more (slot place width) ss given t e = rw e refl

-- a segment without one ends them
fixed_none : (s : Segment) (ss : Pattern) (given : Slots) → fixed_text s given ≡ None → fixed_texts (s ∷ ss) given ≡ []
fixed_none (literal l) ss given e = absurd (none-some l (sym e))
fixed_none (slot place width) ss given e = rw e refl

-- how far fixed texts are joined: the text so far, what comes before the next, and the place of the next segment
pub record AreJoined (p : Pattern) (given : Slots) (i : ℕ) (out separator : Text) : Type 0 where
  pub joined : out ++ joined_after separator (fixed_texts (drop i p) given) ≡ join_with_byte bar (fixed_texts p given)
  pub counted : i + length (fixed_texts (drop i p) given) ≡ length (fixed_texts p given)

-- none are joined at first
pub joined_first : (p : Pattern) (given : Slots) (out : Text) → out ≡ [] → AreJoined p given 0 out []
joined_first p given out e = record { joined = rw e (joined_nothing (fixed_texts p given)); counted = omega arith }

-- one more, where the segment has a text
next_by : (p : Pattern) (given : Slots) (i : ℕ) (s : Segment) (out separator next : Text) (had : Bool) (o : Option Text) → fixed_text s given ≡ o → drop i p ≡ s ∷ drop (i + 1) p → had ≡ true
    → AddsFixed o separator out next had → AreJoined p given i out separator → AreJoined p given (i + 1) next (bar ∷ [])
next_by p given i s out separator next had None e split had_one adds h = absurd (false≢true (sym adds.0 ∙ had_one))
next_by p given i s out separator next had (Some t) e split had_one adds h =
    let rest = fixed_texts (drop (i + 1) p) given in
    let more : fixed_texts (drop i p) given ≡ t ∷ rest = ap (λ q. fixed_texts q given) split ∙ fixed_more s (drop (i + 1) p) given t e in
    let after = joined_after (bar ∷ []) rest in
    record {
      joined = ap (λ u. u ++ after) (adds.1 ∙ append_assoc out separator t) ∙ append_assoc out (separator ++ t) after ∙ ap (λ ts. out ++ joined_after separator ts) (sym more) ∙ h.joined;
      counted = omega (arith, h.counted, ap length more);
    }

-- one more of them is joined
pub joined_next : (p : Pattern) (given : Slots) (i : ℕ) (s : Segment) (out separator next : Text) (had : Bool) → i < length p → s ≡ get_or p i s → had ≡ true
    → AddsFixed (fixed_text s given) separator out next had → AreJoined p given i out separator → AreJoined p given (i + 1) next (bar ∷ [])
joined_next p given i s out separator next had within at had_one adds h = next_by p given i s out separator next had (fixed_text s given) refl (left_at p i s within at) had_one adds h

-- what is joined where the segment has no text
last_by : (p : Pattern) (given : Slots) (i : ℕ) (s : Segment) (out separator next : Text) (had : Bool) (o : Option Text) → fixed_text s given ≡ o → drop i p ≡ s ∷ drop (i + 1) p → i < length p → had ≡ false
    → AddsFixed o separator out next had → AreJoined p given i out separator → (next ≡ join_with_byte bar (fixed_texts p given)) × (false ≡ (length (fixed_texts p given) == length p))
last_by p given i s out separator next had None e split within had_none adds h =
    let end : fixed_texts (drop i p) given ≡ [] = ap (λ q. fixed_texts q given) split ∙ fixed_none s (drop (i + 1) p) given e in (
      adds.1 ∙ sym (append-nil out) ∙ ap (λ ts. out ++ joined_after separator ts) (sym end) ∙ h.joined,
      sym (ne_eqb (length (fixed_texts p given)) (length p) (λ q. omega (arith, q, within, h.counted, ap length end))),
    )
last_by p given i s out separator next had (Some t) e split within had_none adds h = absurd (false≢true (sym had_none ∙ adds.0))

-- all of them are joined, and are not all of the pattern's
pub joined_last : (p : Pattern) (given : Slots) (i : ℕ) (s : Segment) (out separator next : Text) (had : Bool) → i < length p → s ≡ get_or p i s → had ≡ false
    → AddsFixed (fixed_text s given) separator out next had → AreJoined p given i out separator
    → (next ≡ join_with_byte bar (fixed_texts p given)) × (false ≡ (length (fixed_texts p given) == length p))
joined_last p given i s out separator next had within at had_none adds h = last_by p given i s out separator next had (fixed_text s given) refl (left_at p i s within at) within had_none adds h

-- all of them are joined, and are all of the pattern's
pub joined_all : (p : Pattern) (given : Slots) (i : ℕ) (out separator : Text) → i ≡ length p → AreJoined p given i out separator
    → (out ≡ join_with_byte bar (fixed_texts p given)) × (true ≡ (length (fixed_texts p given) == length p))
joined_all p given i out separator at h =
    let end : fixed_texts (drop i p) given ≡ [] = ap (λ q. fixed_texts q given) (drop_all i p (omega (arith, at))) in (
      sym (append-nil out) ∙ ap (λ ts. out ++ joined_after separator ts) (sym end) ∙ h.joined,
      sym (eq-eqb (length (fixed_texts p given)) (length p) (omega (arith, at, h.counted, ap length end))),
    )

-- ---- the prefix range

-- it is the range of one key where all segments have a text
pub pattern_range_whole : (p : Pattern) (given : Slots) (text : Text) → text ≡ join_with_byte bar (fixed_texts p given) → (length (fixed_texts p given) == length p) ≡ true → pattern_range p given ≡ option_map just (short text)
unfolding pattern_range
pattern_range_whole p given text e whole = rw (whole, e) refl

-- and that of a beginning where not
pub pattern_range_beginning : (p : Pattern) (given : Slots) (text : Text) → text ≡ join_with_byte bar (fixed_texts p given) → (length (fixed_texts p given) == length p) ≡ false → pattern_range p given ≡ option_map prefix_range (short (text ++ bar ∷ []))
unfolding pattern_range
pattern_range_beginning p given text e whole = rw (whole, e) refl

-- where an answer is the prefix range, each key that fits under more slots lies in it
pub holds_from_exact : {E : Type 0} (p : Pattern) (given : Slots) (r : Result (Option Range) E) → is_pattern p ≡ true → IfOk r (λ found. found ≡ pattern_range p given)
    → IfOk r (λ found. (more : Slots) (key : Text) → HoldsFitting p given found more key)
holds_from_exact p given r ok h =
    IfOk-weaker r (λ found. found ≡ pattern_range p given) (λ found. (more : Slots) (key : Text) → HoldsFitting p given found more key)
    (λ found e more key. subst (λ x. HoldsFitting p given x more key) (sym e) (pattern_range_holds p given more key ok)) h

bound_by : (p : Pattern) (given : Slots) (key : Text) (found : Option Range) (o : Option Slots) → is_pattern p ≡ true → length given ≡ 16 → ((more : Slots) → HoldsFitting p given found more key) →
    length key ≤ 512 → bind p key given ≡ o → is_some o ≡ true → IsSomeAnd found (λ r. within r key ≡ true)
bound_by p given key found None ok long h small e some = absurd (false≢true some)
bound_by p given key found (Some more) ok long h small e some =
    let least = bind_some p key given more (segments_of_pattern p ok) long e in
    h more small least.takes least.keeps

-- and each key that fits under the slots themselves
pub fitting_from_exact : {E : Type 0} (p : Pattern) (given : Slots) (r : Result (Option Range) E) → is_pattern p ≡ true → length given ≡ 16 → IfOk r (λ found. found ≡ pattern_range p given)
    → IfOk r (λ found. (key : Text) → length key ≤ 512 → is_some (bind p key given) ≡ true → IsSomeAnd found (λ r. within r key ≡ true))
fitting_from_exact p given r ok long h =
    IfOk-weaker r (λ found. (more : Slots) (key : Text) → HoldsFitting p given found more key) (λ found. (key : Text) → length key ≤ 512 → is_some (bind p key given) ≡ true → IsSomeAnd found (λ r. within r key ≡ true))
    (λ found all key small some. bound_by p given key found (bind p key given) ok long (λ more. all more key) small refl some) (holds_from_exact p given r ok h)
