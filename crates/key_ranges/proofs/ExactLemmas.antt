-- The prefix range of a pattern holds exactly the keys that begin with the fixed texts.
use Rattle.std.proofs.Common.{◌≡◌, ℕ, ◌<◌, ◌≤◌, ◌↔◌, ◌==◌, Bool, true, false, cond, nat_eq, nat_le, List, [], ◌∷◌, ◌++◌, length, get_or, drop, Option, Some, None, option_map, MatchOption, refl, sym, ap, ◌∙◌, subst, inl, inr, arith, append_assoc, length-append, eqb-true, eq-eqb, le-leb}
use Rattle.std.specs.List.{list_all, join_with_byte, starts_with, AllByRecursion}
use Rattle.std.proofs.lemmas.Bool.{and_parts, false≢true}
use Rattle.std.proofs.lemmas.List.Elements.{All-from_recursion}
use Rattle.semantics.specs.Texts.{Text, bar, Range, within}
use Rattle.semantics.specs.Patterns.{Segment, literal, slot, Pattern, Slots, no_slots, text_at, is_segment, segments}
use Rattle.semantics.specs.PatternLaws.{AreSegmentTexts}
use Rattle.semantics.proofs.PieceLemmas.{Lacks, equal_by_same, same_by_equal, join-pieces, pieces-join, parts_of}
use Rattle.semantics.proofs.BindLemmas.{texts-no_slots}
use Rattle.semantics.proofs.PatternLemmas.{text_lacks, segments_of_pattern}
use Rattle.key_ranges.specs.Ranges.{prefix_range, just}
use Rattle.key_ranges.specs.Containing.{fixed_texts, fixed_range, pattern_range}
use Rattle.key_ranges.specs.ContainingLaws.{TakesFixed, PatternRangeIsExact}
use Rattle.key_ranges.proofs.PrefixLemmas.{begins_with, rest_of, within-prefix_range, within-just}
use Rattle.key_ranges.proofs.BindRangeLemmas.{pieces_cut}
use Rattle.key_ranges.proofs.ContainingLemmas.{AreFirst, first_by, fixed_slot, fixed_end, join-append, pattern_begins}

-- ---- the fixed texts of a source, as a relation

-- a slot without a text takes all that is left, and one with a text takes it
slot_takes : (place width : ℕ) (ss : Pattern) (t : Text) (ts : List Text) (given : Slots) (o : Option Text) → text_at place given ≡ o → MatchOption o (Unit {0}) (λ u. (u ≡ t) × TakesFixed ss given ts)
    → (TakesFixed ss given ts → AreFirst ss ts (fixed_texts ss given)) → AreFirst (slot place width ∷ ss) (t ∷ ts) (fixed_texts (slot place width ∷ ss) given)
slot_takes place width ss t ts given None e h rest =
    subst (AreFirst (slot place width ∷ ss) (t ∷ ts)) (sym (fixed_end place width ss given e)) (inr (omega arith, t, ts, refl))
slot_takes place width ss t ts given (Some u) e h rest =
    subst (AreFirst (slot place width ∷ ss) (t ∷ ts)) (sym (fixed_slot place width ss given t (e ∙ ap Some h.0))) (first_by (slot place width) ss t ts (fixed_texts ss given) (rest h.1))

-- texts that begin with the fixed ones have them first
takes_first : (p : Pattern) (given : Slots) (ts : List Text) → TakesFixed p given ts → AreFirst p ts (fixed_texts p given)
takes_first [] given [] h = inl (refl, refl)
takes_first [] given (t ∷ ts) h = absurd h
takes_first (literal l ∷ ss) given [] h = absurd h
takes_first (slot place width ∷ ss) given [] h = absurd h
takes_first (literal l ∷ ss) given (t ∷ ts) h =
    subst (λ u. AreFirst (literal l ∷ ss) (u ∷ ts) (l ∷ fixed_texts ss given)) h.0 (first_by (literal l) ss l ts (fixed_texts ss given) (takes_first ss given ts h.1))
takes_first (slot place width ∷ ss) given (t ∷ ts) h = slot_takes place width ss t ts given (text_at place given) refl h (takes_first ss given ts)

-- no text is not the first of any pattern that has a segment
nothing_first : (s : Segment) (ss : Pattern) (fixed : List Text) → AreFirst (s ∷ ss) [] fixed → ⊥
nothing_first s ss fixed (inl all) = absurd (omega (arith, all.0, ap length all.1))
nothing_first s ss fixed (inr some) = absurd (omega (arith, ap length some.3, length-append fixed (some.1 ∷ some.2)))

-- texts are not the first of a pattern that has no segment
none_first : (t : Text) (ts : List Text) → AreFirst [] (t ∷ ts) [] → ⊥
none_first t ts (inl all) = absurd (omega (arith, ap length all.1))
none_first t ts (inr some) = absurd (omega (arith, some.0))

-- the first text is the first segment's, and the others are the others'
rest_first : (s : Segment) (ss : Pattern) (t : Text) (ts : List Text) (u : Text) (fixed : List Text) → AreFirst (s ∷ ss) (t ∷ ts) (u ∷ fixed) → (u ≡ t) × AreFirst ss ts fixed
rest_first s ss t ts u fixed (inl all) = (ap (λ us. get_or us 0 []) all.1, inl (omega (arith, all.0), ap (drop 1) all.1))
rest_first s ss t ts u fixed (inr some) = (sym (ap (λ us. get_or us 0 []) some.3), inr (omega (arith, some.0), some.1, some.2, ap (drop 1) some.3))

-- of a slot with a text and of one without
slot_first_takes : (place width : ℕ) (ss : Pattern) (t : Text) (ts : List Text) (given : Slots) (o : Option Text) → text_at place given ≡ o → AreFirst (slot place width ∷ ss) (t ∷ ts) (fixed_texts (slot place width ∷ ss) given)
    → (AreFirst ss ts (fixed_texts ss given) → TakesFixed ss given ts) → MatchOption o (Unit {0}) (λ u. (u ≡ t) × TakesFixed ss given ts)
slot_first_takes place width ss t ts given None e h rest = tt
slot_first_takes place width ss t ts given (Some u) e h rest =
    let w = rest_first (slot place width) ss t ts u (fixed_texts ss given) (subst (AreFirst (slot place width ∷ ss) (t ∷ ts)) (fixed_slot place width ss given u e) h) in
    (w.0, rest w.1)

-- texts that have the fixed ones first begin with them
first_takes : (p : Pattern) (given : Slots) (ts : List Text) → AreFirst p ts (fixed_texts p given) → TakesFixed p given ts
first_takes [] given [] h = tt
first_takes [] given (t ∷ ts) h = absurd (none_first t ts h)
first_takes (literal l ∷ ss) given [] h = absurd (nothing_first (literal l) ss (fixed_texts (literal l ∷ ss) given) h)
first_takes (slot place width ∷ ss) given [] h = absurd (nothing_first (slot place width) ss (fixed_texts (slot place width ∷ ss) given) h)
first_takes (literal l ∷ ss) given (t ∷ ts) h =
    let w = rest_first (literal l) ss t ts l (fixed_texts ss given) h in
    (w.0, first_takes ss given ts w.1)
first_takes (slot place width ∷ ss) given (t ∷ ts) h = slot_first_takes place width ss t ts given (text_at place given) refl h (first_takes ss given ts)

-- ---- what the fixed texts are

-- the text of a slot, if it has one, and then the others
slot_lacks : (place width : ℕ) (ss : Pattern) (given : Slots) (o : Option Text) → text_at place given ≡ o → AreSegmentTexts given → AllByRecursion (Lacks bar) (fixed_texts ss given)
    → AllByRecursion (Lacks bar) (fixed_texts (slot place width ∷ ss) given)
slot_lacks place width ss given None e are rest = subst (AllByRecursion (Lacks bar)) (sym (fixed_end place width ss given e)) tt
slot_lacks place width ss given (Some t) e are rest = subst (AllByRecursion (Lacks bar)) (sym (fixed_slot place width ss given t e)) ((are place t e).1, rest)

-- no fixed text has the byte `|`
fixed_lack : (p : Pattern) (given : Slots) → list_all is_segment p ≡ true → AreSegmentTexts given → AllByRecursion (Lacks bar) (fixed_texts p given)
fixed_lack [] given ok are = tt
fixed_lack (literal l ∷ ss) given ok are =
    let parts = and_parts (is_segment (literal l)) (list_all is_segment ss) ok in
    (text_lacks (literal l) l no_slots parts.0 texts-no_slots refl, fixed_lack ss given parts.1 are)
fixed_lack (slot place width ∷ ss) given ok are =
    slot_lacks place width ss given (text_at place given) refl are (fixed_lack ss given (and_parts (is_segment (slot place width)) (list_all is_segment ss) ok).1 are)

-- the text of a slot, if it has one, and then the others
slot_few : (place width : ℕ) (ss : Pattern) (given : Slots) (o : Option Text) → text_at place given ≡ o → length (fixed_texts ss given) ≤ length ss → length (fixed_texts (slot place width ∷ ss) given) ≤ length (slot place width ∷ ss)
slot_few place width ss given None e rest = subst (λ ts. length ts ≤ length (slot place width ∷ ss)) (sym (fixed_end place width ss given e)) (omega arith)
slot_few place width ss given (Some t) e rest = subst (λ ts. length ts ≤ length (slot place width ∷ ss)) (sym (fixed_slot place width ss given t e)) (omega (arith, rest))

-- there are no more fixed texts than segments
fixed_few : (p : Pattern) (given : Slots) → length (fixed_texts p given) ≤ length p
fixed_few [] given = omega arith
fixed_few (literal l ∷ ss) given = let rest = fixed_few ss given in omega (arith, rest)
fixed_few (slot place width ∷ ss) given = slot_few place width ss given (text_at place given) refl (fixed_few ss given)

-- ---- what the range of fixed texts holds

-- a key that has as many fixed texts as segments is these, joined
whole_is_joined : (fixed : List Text) (p : Pattern) (key : Text) → length fixed ≡ length p → AreFirst p (segments key) fixed → join_with_byte bar fixed ≡ key
whole_is_joined fixed p key long (inl all) = ap (join_with_byte bar) all.1 ∙ join-pieces bar key
whole_is_joined fixed p key long (inr some) = absurd (omega (arith, long, some.0))

-- the other way round
joined_is_whole : (t : Text) (fixed : List Text) (p : Pattern) (key : Text) → AllByRecursion (Lacks bar) (t ∷ fixed) → length (t ∷ fixed) ≡ length p → join_with_byte bar (t ∷ fixed) ≡ key → AreFirst p (segments key) (t ∷ fixed)
joined_is_whole t fixed p key lacks long e =
    inl (long, sym (pieces-join bar t fixed (All-from_recursion (Lacks bar) (t ∷ fixed) lacks)) ∙ ap segments e)

-- a key that has fewer fixed texts than segments is these, joined, then `|` and more
begins_with_joined : (t : Text) (fixed : List Text) (p : Pattern) (key : Text) → length (t ∷ fixed) < length p → AreFirst p (segments key) (t ∷ fixed) → (rest : Text) × (key ≡ (join_with_byte bar (t ∷ fixed) ++ bar ∷ []) ++ rest)
begins_with_joined t fixed p key less (inl all) = absurd (omega (arith, less, all.0))
begins_with_joined t fixed p key less (inr some) =
    let rest = join_with_byte bar (some.1 ∷ some.2) in
    (rest, sym (join-pieces bar key) ∙ ap (join_with_byte bar) some.3 ∙ join-append bar t fixed some.1 some.2 ∙ sym (append_assoc (join_with_byte bar (t ∷ fixed)) (bar ∷ []) rest))

-- the other way round
joined_begins : (t : Text) (fixed : List Text) (p : Pattern) (key rest : Text) → AllByRecursion (Lacks bar) (t ∷ fixed) → length (t ∷ fixed) < length p → key ≡ (join_with_byte bar (t ∷ fixed) ++ bar ∷ []) ++ rest → AreFirst p (segments key) (t ∷ fixed)
joined_begins t fixed p key rest lacks less e =
    let front = join_with_byte bar (t ∷ fixed) in
    let parts = parts_of bar rest in
    let cut : segments key ≡ segments front ++ segments rest = ap segments (e ∙ append_assoc front (bar ∷ []) rest) ∙ pieces_cut bar front rest in
    let first : segments front ≡ t ∷ fixed = pieces-join bar t fixed (All-from_recursion (Lacks bar) (t ∷ fixed) lacks) in
    inr (less, parts.0, parts.1, cut ∙ ap (λ us. us ++ segments rest) first ∙ ap (λ us. (t ∷ fixed) ++ us) parts.2)

-- the range holds those keys alone that have the fixed texts first, and all of them; there is none only where no short key has them first
abbrev HoldsFirst : Pattern → List Text → Option Range → Type 0
HoldsFirst p fixed found = MatchOption found
    ((key : Text) → length key ≤ 512 → AreFirst p (segments key) fixed → ⊥)
    (λ r. (key : Text) → (within r key ≡ true) ↔ AreFirst p (segments key) fixed)

-- the range of the one key that all texts make
all_exact : (t : Text) (fixed : List Text) (p : Pattern) (x : Bool) → nat_le (length (join_with_byte bar (t ∷ fixed))) 512 ≡ x → AllByRecursion (Lacks bar) (t ∷ fixed) → length (t ∷ fixed) ≡ length p
    → HoldsFirst p (t ∷ fixed) (option_map just (cond x (Some (join_with_byte bar (t ∷ fixed))) None))
all_exact t fixed p true e lacks long = λ key. (
  λ inside. joined_is_whole t fixed p key lacks long (equal_by_same _ _ (sym (within-just (join_with_byte bar (t ∷ fixed)) key) ∙ inside)),
  λ first. within-just (join_with_byte bar (t ∷ fixed)) key ∙ same_by_equal _ _ (whole_is_joined (t ∷ fixed) p key long first),
)
all_exact t fixed p false e lacks long = λ key small first.
    let is = ap length (whole_is_joined (t ∷ fixed) p key long first) in
    false≢true (sym e ∙ le-leb (length (join_with_byte bar (t ∷ fixed))) 512 (omega (arith, small, is)))

-- the range of the keys that begin with some texts
some_exact : (t : Text) (fixed : List Text) (p : Pattern) (x : Bool) → nat_le (length (join_with_byte bar (t ∷ fixed) ++ bar ∷ [])) 512 ≡ x → AllByRecursion (Lacks bar) (t ∷ fixed) → length (t ∷ fixed) < length p
    → HoldsFirst p (t ∷ fixed) (option_map prefix_range (cond x (Some (join_with_byte bar (t ∷ fixed) ++ bar ∷ [])) None))
some_exact t fixed p true e lacks less = λ key.
    let front = join_with_byte bar (t ∷ fixed) in (
      λ inside.
          let w = rest_of key (front ++ bar ∷ []) (sym (within-prefix_range front key) ∙ inside) in
          joined_begins t fixed p key w.0 lacks less w.1,
      λ first.
          let w = begins_with_joined t fixed p key less first in
          within-prefix_range front key ∙ subst (λ k. starts_with nat_eq k (front ++ bar ∷ []) ≡ true) (sym w.1) (begins_with (front ++ bar ∷ []) w.0),
    )
some_exact t fixed p false e lacks less = λ key small first.
    let front = join_with_byte bar (t ∷ fixed) in
    let w = begins_with_joined t fixed p key less first in
    false≢true (sym e ∙ le-leb (length (front ++ bar ∷ [])) 512 (omega (arith, small, ap length w.1, length-append (front ++ bar ∷ []) w.0)))

-- whichever is chosen
exact_by : (t : Text) (fixed : List Text) (p : Pattern) (x : Bool) → (length (t ∷ fixed) == length p) ≡ x → AllByRecursion (Lacks bar) (t ∷ fixed) → length (t ∷ fixed) ≤ length p → HoldsFirst p (t ∷ fixed) (fixed_range x (t ∷ fixed))
exact_by t fixed p true e lacks few = all_exact t fixed p (nat_le (length (join_with_byte bar (t ∷ fixed))) 512) refl lacks (eqb-true _ _ e)
exact_by t fixed p false e lacks few =
    let apart : (length (t ∷ fixed) ≡ length p → ⊥) = (λ q. false≢true (sym e ∙ eq-eqb _ _ q)) in
    some_exact t fixed p (nat_le (length (join_with_byte bar (t ∷ fixed) ++ bar ∷ [])) 512) refl lacks (omega (arith, few, apart))

-- ---- the law

-- the same of a source by its parts
exact_literal : (l : Text) (ss : Pattern) (given : Slots) → list_all is_segment (literal l ∷ ss) ≡ true → AreSegmentTexts given → HoldsFirst (literal l ∷ ss) (fixed_texts (literal l ∷ ss) given) (pattern_range (literal l ∷ ss) given)
unfolding pattern_range
exact_literal l ss given ok are =
    exact_by l (fixed_texts ss given) (literal l ∷ ss) (length (l ∷ fixed_texts ss given) == length (literal l ∷ ss)) refl (fixed_lack (literal l ∷ ss) given ok are) (fixed_few (literal l ∷ ss) given)

-- what is said of the fixed texts is said of those that begin with them
exact_from_first : (p : Pattern) (given : Slots) (found : Option Range) → HoldsFirst p (fixed_texts p given) found
    → MatchOption found ((key : Text) → length key ≤ 512 → TakesFixed p given (segments key) → ⊥) (λ r. (key : Text) → (within r key ≡ true) ↔ TakesFixed p given (segments key))
exact_from_first p given None h = λ key small takes. h key small (takes_first p given (segments key) takes)
exact_from_first p given (Some r) h = λ key. (λ inside. first_takes p given (segments key) ((h key).0 inside), λ takes. (h key).1 (takes_first p given (segments key) takes))

-- the prefix range of a pattern holds those keys alone whose segments begin with the fixed texts, and all of them
pub pattern_range_is_exact : PatternRangeIsExact
pattern_range_is_exact pattern given ok are =
    let w = pattern_begins pattern ok in
    let segments_ok = subst (λ p. list_all is_segment p ≡ true) w.2 (segments_of_pattern pattern ok) in
    exact_from_first pattern given (pattern_range pattern given)
    (subst (λ p. HoldsFirst p (fixed_texts p given) (pattern_range p given)) (sym w.2) (exact_literal w.0 w.1 given segments_ok are))
