-- Noted slots, with the ranges that hold the keys under them.
use Rattle.std.proofs.Common.{◌≡◌, ℕ, ◌<◌, ◌≤◌, get_or, Contains, arith, Bool, true, false, cond, not, ◌||◌, List, [], ◌∷◌, ◌++◌, length, map, filter, Option, Some, None, is_some, refl, sym, ap, ◌∙◌, subst}
use Rattle.std.specs.List.{AllByRecursion, list_any}
use Rattle.std.specs.Option.{IsSomeAnd}
use Rattle.std.proofs.lemmas.Bool.{false≢true, or_parts}
use Rattle.std.proofs.lemmas.List.{length-map, get_or-map}
use Rattle.semantics.specs.Texts.{Text, Range, within}
use Rattle.semantics.specs.Patterns.{Pattern, Slots, bind}
use Rattle.semantics.proofs.PatternLemmas.{bind_some, segments_of_pattern}
use Rattle.key_ranges.specs.Containing.{pattern_range}
use Rattle.key_ranges.proofs.ContainingLemmas.{pattern_range_holds}
use Rattle.key_ranges.proofs.RangeLemmas.{holders_meet}
use Rattle.lazy_log.specs.Pending.{meets_held, meets_output}
use Rattle.lazy_log.specs.Held.{slots_of, AreHeld}
use Rattle.lazy_log.specs.Laws.{CoveredIsMet}
use Rattle.lazy_log.specs.declared.log.Noted.{Noted}

-- ---- keys that are covered

-- a range that holds a key of the other meets it
met_by : (found : Option Range) (range : Range) (key : Text) → within range key ≡ true → IsSomeAnd found (λ r. within r key ≡ true) → meets_held found range ≡ true
met_by None range key inside h = absurd h
met_by (Some held) range key inside h = holders_meet held range key h inside

-- a test of an `Option` that holds some
some_of : (o : Option Slots) → is_some o ≡ true → (x : Slots) × (o ≡ Some x)
some_of None h = absurd (false≢true h)
some_of (Some x) h = (x, refl)

-- slots that cover a key of a range meet the range
pub covered_is_met : CoveredIsMet
covered_is_met output slots range key ok long small inside fits =
    let found = some_of (bind output key slots) fits in
    let least = bind_some output key slots found.0 (segments_of_pattern output ok) long found.1 in
    met_by (pattern_range output slots) range key inside (pattern_range_holds output slots found.0 key ok small least.takes least.keeps)

-- ---- slots among those that were noted

-- slots that are noted are those of one that was noted
pub noted_at : (ns : List Noted) (slots : Slots) → Contains (slots_of ns) slots → (k : ℕ) × (d : Noted) × (k < length ns) × ((get_or ns k d).slots ≡ slots)
noted_at [] slots has = let less = has.1 in absurd (omega arith)
noted_at (n ∷ ns) slots has =
    let below = has.1 in
    let less : has.0 < length (n ∷ ns) = omega (arith, length-map (n ∷ ns) (λ (m : Noted). m.slots)) in
    (has.0, n, less, sym (get_or-map (λ (m : Noted). m.slots) (n ∷ ns) has.0 n slots less) ∙ has.2)

-- ---- tests of what was noted

-- a test of the slots, of each that was noted
pub any_noted : (test : Slots → Bool) (ns : List Noted) → list_any (λ n. test n.slots) ns ≡ list_any test (slots_of ns)
any_noted test [] = refl
any_noted test (n ∷ ns) = ap (λ b. test n.slots || b) (any_noted test ns)

-- the ranges beside the slots meet what the prefix ranges meet
pub any_held : (output : Pattern) (range : Range) (ns : List Noted) → AreHeld output ns → list_any (λ n. meets_held n.held range) ns ≡ list_any (meets_output output range) (slots_of ns)
any_held output range [] h = refl
any_held output range (n ∷ ns) h =
    ap (λ held. meets_held held range || list_any (λ n. meets_held n.held range) ns) h.0
    ∙ ap (λ b. meets_output output range n.slots || b) (any_held output range ns h.1)

slots_by : (b : Bool) (n : Noted) (ns : List Noted) → slots_of (cond b (n ∷ ns) ns) ≡ cond b (n.slots ∷ slots_of ns) (slots_of ns)
slots_by true n ns = refl
slots_by false n ns = refl

-- the slots beside the ranges that pass are those whose prefix ranges pass
pub slots_where : (output : Pattern) (test : Option Range → Bool) (ns : List Noted) → AreHeld output ns → slots_of (filter (λ n. test n.held) ns) ≡ filter (λ slots. test (pattern_range output slots)) (slots_of ns)
slots_where output test [] h = refl
slots_where output test (n ∷ ns) h =
    slots_by (test n.held) n (filter (λ n. test n.held) ns)
    ∙ ap (λ ss. cond (test n.held) (n.slots ∷ ss) ss) (slots_where output test ns h.1)
    ∙ ap (λ held. cond (test held) (n.slots ∷ filter (λ slots. test (pattern_range output slots)) (slots_of ns)) (filter (λ slots. test (pattern_range output slots)) (slots_of ns))) h.0

-- ---- what was noted, more and less

-- one more, with its prefix range
pub held_push : (output : Pattern) (ns : List Noted) (n : Noted) → AreHeld output ns → n.held ≡ pattern_range output n.slots → AreHeld output (ns ++ n ∷ [])
held_push output [] n h is = (is, tt)
held_push output (m ∷ ms) n h is = (h.0, held_push output ms n h.1 is)

-- the slots of one more
pub slots_push : (ns : List Noted) (n : Noted) → slots_of (ns ++ n ∷ []) ≡ slots_of ns ++ n.slots ∷ []
slots_push [] n = refl
slots_push (m ∷ ms) n = ap (λ ss. m.slots ∷ ss) (slots_push ms n)

held_by : (output : Pattern) (b : Bool) (n : Noted) (ns : List Noted) → n.held ≡ pattern_range output n.slots → AreHeld output ns → AreHeld output (cond b (n ∷ ns) ns)
held_by output true n ns here h = (here, h)
held_by output false n ns here h = h

-- some of them
pub held_where : (output : Pattern) (test : Noted → Bool) (ns : List Noted) → AreHeld output ns → AreHeld output (filter test ns)
held_where output test [] h = tt
held_where output test (n ∷ ns) h = held_by output (test n) n (filter test ns) h.0 (held_where output test ns h.1)

-- ---- what was noted, in two parts

-- those that are left, after none, keep their prefix ranges
pub left_held : (output : Pattern) (range : Range) (ns before after : List Noted) → AreHeld output ns → before ≡ [] → after ≡ before ++ filter (λ n. not (meets_held n.held range)) ns → AreHeld output after
left_held output range ns before after h none is =
    subst (AreHeld output) (sym (is ∙ ap (λ ms. ms ++ filter (λ n. not (meets_held n.held range)) ns) none)) (held_where output (λ n. not (meets_held n.held range)) ns h)

-- their slots are those that do not meet the range
pub left_slots : (output : Pattern) (range : Range) (ns before after : List Noted) → AreHeld output ns → before ≡ [] → after ≡ before ++ filter (λ n. not (meets_held n.held range)) ns → slots_of after ≡ filter (λ slots. not (meets_output output range slots)) (slots_of ns)
left_slots output range ns before after h none is =
    ap slots_of (is ∙ ap (λ ms. ms ++ filter (λ n. not (meets_held n.held range)) ns) none) ∙ slots_where output (λ held. not (meets_held held range)) ns h

-- those that are taken, after none, meet it
pub taken_slots : (output : Pattern) (range : Range) (ns : List Noted) (before after : List Slots) → AreHeld output ns → before ≡ [] → after ≡ before ++ slots_of (filter (λ n. meets_held n.held range) ns) → after ≡ filter (meets_output output range) (slots_of ns)
taken_slots output range ns before after h none is =
    is ∙ ap (λ ss. ss ++ slots_of (filter (λ n. meets_held n.held range) ns)) none ∙ slots_where output (λ held. meets_held held range) ns h

-- ---- where none passes

-- of what does not pass nothing is taken out, and all is left
pub none_passes : (test : Slots → Bool) (noted : List Slots) → list_any test noted ≡ false → (filter test noted ≡ []) × (filter (λ slots. not (test slots)) noted ≡ noted)
none_passes test [] none = (refl, refl)
none_passes test (slots ∷ more) none =
    let parts = or_parts (test slots) (list_any test more) none in
    let rest = none_passes test more parts.1 in (
      ap (λ b. cond b (slots ∷ filter test more) (filter test more)) parts.0 ∙ rest.0,
      ap (λ b. cond (not b) (slots ∷ filter (λ s. not (test s)) more) (filter (λ s. not (test s)) more)) parts.0 ∙ ap (λ ss. slots ∷ ss) rest.1,
    )
