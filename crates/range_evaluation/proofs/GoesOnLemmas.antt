-- Which needs a tree has.
use Rattle.std.proofs.Common.{◌≡◌, ℕ, zero, suc, ◌+◌, List, [], ◌∷◌, ◌++◌, flat_map, length, slice_get, true, Option, Some, None, sym, ap, ◌∙◌, subst, inl, inr, arith, length-append}
use Rattle.std.proofs.lemmas.Option.{none-some, same_Some, slice_get_past}
use Rattle.semantics.specs.Texts.{Text, Table, Range, within, pairs_within}
use Rattle.semantics.specs.Patterns.{Pattern, Slots, bind}
use Rattle.semantics.specs.Joins.{Source}
use Rattle.semantics.proofs.MemberLemmas.{Has, has_from_contains, contains_from_has, has_filtered, has_flat_map, has_flat_mapped}
use Rattle.key_ranges.specs.Containing.{containing}
use Rattle.range_evaluation.specs.Trees.{Need, placed_sources, under, over, needs_from, tree}
use Rattle.range_evaluation.specs.PathLaws.{need_of, FirstHasNeed, NextHasNeed}
use Rattle.range_evaluation.proofs.NeedLemmas.{after_pair, of_range}
use Rattle.range_evaluation.proofs.OnceLemmas.{all_came, came_after}

-- ---- the first need

-- the first of some sources has a need, where it has a containing range
first_has : (output : Pattern) (asked : Range) (ps : List (ℕ × Source)) (table : Table) (by : List Text) (slots : Slots) (p : ℕ × Source) (range : Range) → slice_get ps 0 ≡ Some p → containing p.1.pattern slots output asked ≡ Some range
    → Has (needs_from output asked ps table by slots) (need_of p by slots range)
first_has output asked [] table by slots p range at found = absurd (none-some p (sym (slice_get_past [] 0 (omega arith)) ∙ at))
first_has output asked (q ∷ ps) table by slots p range at found =
    let one : q ≡ p = same_Some q p at in
    let here : containing q.1.pattern slots output asked ≡ Some range = ap (λ x. containing x.1.pattern slots output asked) one ∙ found in
    subst (λ o. Has (over (of_range output asked q ps table by slots) o) (need_of p by slots range)) (sym here) (inl (ap (λ x. need_of x by slots range) one))

-- the first source has a need
pub first_has_need : FirstHasNeed
unfolding tree
first_has_need j slots range table p found_range at found =
    contains_from_has (tree j slots range table) (need_of p [] slots found_range) (first_has j.output range (placed_sources j) table [] slots p found_range at found)

-- ---- the needs that follow from one

-- the need of the next source by one key more
abbrev next_of : Need → Text → ℕ × Source → Slots → Range → Need
next_of need key next more range = need_of next (need.by ++ key ∷ []) more range

-- what goes on from a need: a pair of its range whose key binds its source, and the next source with its containing range
record GoesOn (output : Pattern) (asked : Range) (table : Table) (need : Need) (pair : Text × Text) (p next : ℕ × Source) (more : Slots) (range : Range) : Type 0 where
  stored : Has table pair
  inside : within need.range pair.0 ≡ true
  bound : bind p.1.pattern pair.0 need.slots ≡ Some more
  found : containing next.1.pattern more output asked ≡ Some range

-- the need of the first source and the one that goes on from it
from_first : (output : Pattern) (asked : Range) (p : ℕ × Source) (ps : List (ℕ × Source)) (table : Table) (by : List Text) (slots : Slots) (here : Range) (pair : Text × Text) (next : ℕ × Source) (more : Slots) (range : Range)
    → GoesOn output asked table (need_of p by slots here) pair p next more range → slice_get ps 0 ≡ Some next → Has (of_range output asked p ps table by slots here) (need_of next (by ++ pair.0 ∷ []) more range)
from_first output asked p ps table by slots here pair next more range goes follows =
    inr (has_flat_mapped (after_pair output asked p ps table by slots) (pairs_within here table) pair (need_of next (by ++ pair.0 ∷ []) more range)
    (has_filtered (λ q. within here q.0) table pair goes.inside goes.stored)
    (subst (λ b. Has (under (λ m. needs_from output asked ps table (by ++ pair.0 ∷ []) m) b) (need_of next (by ++ pair.0 ∷ []) more range)) (sym goes.bound)
    (first_has output asked ps table (by ++ pair.0 ∷ []) more next range follows goes.found)))

-- from a path on, the needs go on
abbrev AllGoOn : Pattern → Range → List (ℕ × Source) → Table → Type 0
AllGoOn output asked ps table = (by : List Text) (slots : Slots) (n : ℕ) (need : Need) (pair : Text × Text) (p next : ℕ × Source) (more : Slots) (range : Range) → Has (needs_from output asked ps table by slots) need → length need.by ≡ length by + n
    → slice_get ps n ≡ Some p → slice_get ps (suc n) ≡ Some next → GoesOn output asked table need pair p next more range → Has (needs_from output asked ps table by slots) (next_of need pair.0 next more range)

-- after a pair whose key binds, or not
goes_after : (output : Pattern) (asked : Range) (ps : List (ℕ × Source)) (table : Table) (by : List Text) (o : Option Slots) (n : ℕ) (need : Need) (pair : Text × Text) (p next : ℕ × Source) (more : Slots) (range : Range) → AllGoOn output asked ps table
    → Has (under (λ m. needs_from output asked ps table by m) o) need → length need.by ≡ length by + n → slice_get ps n ≡ Some p → slice_get ps (suc n) ≡ Some next → GoesOn output asked table need pair p next more range
    → Has (under (λ m. needs_from output asked ps table by m) o) (next_of need pair.0 next more range)
goes_after output asked ps table by None n need pair p next more range all h deep at follows goes = absurd h
goes_after output asked ps table by (Some slots) n need pair p next more range all h deep at follows goes = all by slots n need pair p next more range h deep at follows goes

-- the need of the first source itself
goes_here : (output : Pattern) (asked : Range) (q : ℕ × Source) (ps : List (ℕ × Source)) (table : Table) (by : List Text) (slots : Slots) (here : Range) (n : ℕ) (need : Need) (pair : Text × Text) (p next : ℕ × Source) (more : Slots) (range : Range)
    → need_of q by slots here ≡ need → length need.by ≡ length by + n → slice_get (q ∷ ps) n ≡ Some p → slice_get (q ∷ ps) (suc n) ≡ Some next → GoesOn output asked table need pair p next more range
    → Has (of_range output asked q ps table by slots here) (next_of need pair.0 next more range)
goes_here output asked q ps table by slots here zero need pair p next more range e deep at follows goes =
    let one : q ≡ p = same_Some q p at in
    let own = subst (λ x. GoesOn output asked table x pair p next more range) (sym e) goes in
    subst (λ x. Has (of_range output asked q ps table by slots here) (next_of x pair.0 next more range)) e
    (from_first output asked q ps table by slots here pair next more range (subst (λ x. GoesOn output asked table (need_of q by slots here) pair x next more range) (sym one) own) follows)
goes_here output asked q ps table by slots here (suc n) need pair p next more range e deep at follows goes = absurd (omega (arith, ap (λ x. length x.by) e, deep))

-- a need that follows from a pair of the first source's range
goes_later : (output : Pattern) (asked : Range) (q : ℕ × Source) (ps : List (ℕ × Source)) (table : Table) (by : List Text) (slots : Slots) (here : Range) (n : ℕ) (need : Need) (pair : Text × Text) (p next : ℕ × Source) (more : Slots) (range : Range) → AllGoOn output asked ps table
    → Has (flat_map (after_pair output asked q ps table by slots) (pairs_within here table)) need → length need.by ≡ length by + n → slice_get (q ∷ ps) n ≡ Some p → slice_get (q ∷ ps) (suc n) ≡ Some next → GoesOn output asked table need pair p next more range
    → Has (flat_map (after_pair output asked q ps table by slots) (pairs_within here table)) (next_of need pair.0 next more range)
goes_later output asked q ps table by slots here zero need pair p next more range all h deep at follows goes =
    let w = has_flat_map (after_pair output asked q ps table by slots) (pairs_within here table) need h in
    let came = came_after output asked ps table (by ++ w.0.0 ∷ []) (bind q.1.pattern w.0.0 slots) need (all_came output asked ps table) w.2 in
    absurd (omega (arith, deep, ap length came.1, length-append (by ++ w.0.0 ∷ []) came.0, length-append by (w.0.0 ∷ [])))
goes_later output asked q ps table by slots here (suc n) need pair p next more range all h deep at follows goes =
    let w = has_flat_map (after_pair output asked q ps table by slots) (pairs_within here table) need h in
    let deeper : length need.by ≡ length (by ++ w.0.0 ∷ []) + n = omega (arith, deep, length-append by (w.0.0 ∷ [])) in
    has_flat_mapped (after_pair output asked q ps table by slots) (pairs_within here table) w.0 (next_of need pair.0 next more range) w.1
    (goes_after output asked ps table (by ++ w.0.0 ∷ []) (bind q.1.pattern w.0.0 slots) n need pair p next more range all w.2 deeper at follows goes)

-- a source with a containing range, or without one
goes_over : (output : Pattern) (asked : Range) (q : ℕ × Source) (ps : List (ℕ × Source)) (table : Table) (by : List Text) (slots : Slots) (o : Option Range) (n : ℕ) (need : Need) (pair : Text × Text) (p next : ℕ × Source) (more : Slots) (range : Range) → AllGoOn output asked ps table
    → Has (over (of_range output asked q ps table by slots) o) need → length need.by ≡ length by + n → slice_get (q ∷ ps) n ≡ Some p → slice_get (q ∷ ps) (suc n) ≡ Some next → GoesOn output asked table need pair p next more range
    → Has (over (of_range output asked q ps table by slots) o) (next_of need pair.0 next more range)
goes_over output asked q ps table by slots None n need pair p next more range all h deep at follows goes = absurd h
goes_over output asked q ps table by slots (Some here) n need pair p next more range all (inl e) deep at follows goes = goes_here output asked q ps table by slots here n need pair p next more range e deep at follows goes
goes_over output asked q ps table by slots (Some here) n need pair p next more range all (inr h) deep at follows goes = inr (goes_later output asked q ps table by slots here n need pair p next more range all h deep at follows goes)

-- the needs go on from each path
all_go_on : (output : Pattern) (asked : Range) (ps : List (ℕ × Source)) (table : Table) → AllGoOn output asked ps table
all_go_on output asked [] table by slots n need pair p next more range h deep at follows goes = absurd h
all_go_on output asked (q ∷ ps) table by slots n need pair p next more range h deep at follows goes =
    goes_over output asked q ps table by slots (containing q.1.pattern slots output asked) n need pair p next more range (all_go_on output asked ps table) h deep at follows goes

-- the next source has a need by one key more
pub next_has_need : NextHasNeed
unfolding tree
next_has_need j slots more range table need pair p next found_range has at stored inside bound follows found =
    contains_from_has (tree j slots range table) (next_of need pair.0 next more found_range)
    (all_go_on j.output range (placed_sources j) table [] slots (length need.by) need pair p next more found_range (has_from_contains (tree j slots range table) need has) (omega arith) at
    (ap (slice_get (placed_sources j)) (omega arith) ∙ follows)
    (record { stored = has_from_contains table pair stored; inside = inside; bound = bound; found = found }))
