-- Parts of a range that join to it.
use Rattle.std.proofs.Common.{◌≡◌, ◌⊎◌, ◌&&◌, ℕ, zero, suc, Bool, true, false, cond, List, [], ◌∷◌, ◌++◌, flat_map, slice_get, Some, refl, sym, ap, ◌∙◌, subst, inl, inr, is_lt}
use Rattle.std.specs.List.{AllByRecursion}
use Rattle.std.specs.FinMap.Entries.{is_sorted, below_all}
use Rattle.std.proofs.lemmas.Bool.{cases_Bool, false≢true, true≢false, and_parts, and_from, and_left, and_right, cond-true, cond-false, false_from_ne_true, not-true}
use Rattle.std.proofs.lemmas.Option.{same_Some}
use Rattle.semantics.specs.Texts.{Text, text_cmp, Table, Range, within, pairs_within}
use Rattle.semantics.proofs.OfRankLemmas.{all_at}
use Rattle.semantics.proofs.TableLemmas.{IsAscending}
use Rattle.semantics.proofs.MergedLemmas.{ascending-tail}
use Rattle.key_ranges.specs.Ranges.{is_below}
use Rattle.key_ranges.proofs.OrderLemmas.{is_up_to, up_to-not_below, not_up_to_from_below, up_to_from_not_below, up_to_itself, up_to_from_below, below_up_to, up_to_trans}
use Rattle.layering.specs.Parts.{JoinUpTo, IsWithin}
use Rattle.layering.specs.PartLaws.{TwoMakeRange, PartsMakeRange, PartsAreWithin, IsHeldOnce, KeysAreHeldOnce, WithinIsKept, PartOfRange}
use Rattle.layering.proofs.ListLemmas.{filter_none}

-- the range from a text to another
abbrev between : Text → Text → Range
between low high = record { low = low; high = high }

-- ---- two ranges that join

-- keys above a text are in no range that ends there
none_before : (low middle : Text) (table : Table) → AllByRecursion (λ (pair : Text × Text). is_up_to middle pair.0 ≡ true) table → pairs_within (between low middle) table ≡ []
none_before low middle [] all = refl
none_before low middle (pair ∷ pairs) all =
    cond-false (within (between low middle) pair.0) _ _ (and_right (is_up_to low pair.0) (is_below pair.0 middle) (not-true (is_below pair.0 middle) (sym (up_to-not_below middle pair.0) ∙ all.0)))
    ∙ none_before low middle pairs all.1

-- the keys after one that is not below a text are not either
all_after : (middle key : Text) (pairs : Table) → is_up_to middle key ≡ true → below_all text_cmp key pairs ≡ true → AllByRecursion (λ (pair : Text × Text). is_up_to middle pair.0 ≡ true) pairs
all_after middle key [] up below = tt
all_after middle key (pair ∷ pairs) up below =
    let parts = and_parts (is_lt (text_cmp key pair.0)) (below_all text_cmp key pairs) below in
    (up_to_trans middle key pair.0 up (up_to_from_below key pair.0 parts.0), all_after middle key pairs up parts.1)

-- a pair that is in the first range, or in none
front : (a b c : Bool) (pair : Text × Text) (first next whole : Table) → a ≡ c → b ≡ false → first ++ next ≡ whole → cond a (pair ∷ first) first ++ cond b (pair ∷ next) next ≡ cond c (pair ∷ whole) whole
front a true c pair first next whole e f ih = absurd (true≢false f)
front true false true pair first next whole e f ih = ap (λ ps. pair ∷ ps) ih
front true false false pair first next whole e f ih = absurd (true≢false e)
front false false true pair first next whole e f ih = absurd (false≢true e)
front false false false pair first next whole e f ih = ih

-- a pair that is in the second range, or in none, where the first has nothing any more
back : (a b c : Bool) (pair : Text × Text) (first next whole : Table) → b ≡ c → a ≡ false → first ≡ [] → first ++ next ≡ whole → cond a (pair ∷ first) first ++ cond b (pair ∷ next) next ≡ cond c (pair ∷ whole) whole
back true b c pair first next whole e f none ih = absurd (true≢false f)
back false true true pair first next whole e f none ih =
    ap (λ ps. ps ++ pair ∷ next) none ∙ ap (λ ps. pair ∷ ps) (ap (λ ps. ps ++ next) (sym none) ∙ ih)
back false true false pair first next whole e f none ih = absurd (true≢false e)
back false false true pair first next whole e f none ih = absurd (false≢true e)
back false false false pair first next whole e f none ih = ih

-- the pairs in two ranges that join, in order
pub two_make_range : TwoMakeRange
two_make_range low middle high [] asc first last = refl
two_make_range low middle high (pair ∷ pairs) asc first last = by (cases_Bool (is_below pair.0 middle))
    (two_make_range low middle high pairs (ascending-tail pair pairs asc) first last)
  where
    by : (is_below pair.0 middle ≡ true) ⊎ (is_below pair.0 middle ≡ false) →
        pairs_within (between low middle) pairs ++ pairs_within (between middle high) pairs ≡ pairs_within (between low high) pairs →
        pairs_within (between low middle) (pair ∷ pairs) ++ pairs_within (between middle high) (pair ∷ pairs) ≡ pairs_within (between low high) (pair ∷ pairs)
    by (inl less) ih =
        let not_second : within (between middle high) pair.0 ≡ false = and_left (is_up_to middle pair.0) (is_below pair.0 high) (not_up_to_from_below pair.0 middle less) in
        let inside : is_below pair.0 high ≡ true = below_up_to pair.0 middle high less last in
        let one : within (between low middle) pair.0 ≡ within (between low high) pair.0 = ap (λ b. is_up_to low pair.0 && b) (less ∙ sym inside) in
        front (within (between low middle) pair.0) (within (between middle high) pair.0) (within (between low high) pair.0) pair
        (pairs_within (between low middle) pairs) (pairs_within (between middle high) pairs) (pairs_within (between low high) pairs) one not_second ih
    by (inr past) ih =
        let up : is_up_to middle pair.0 ≡ true = up_to_from_not_below pair.0 middle past in
        let none : pairs_within (between low middle) pairs ≡ [] = none_before low middle pairs (all_after middle pair.0 pairs up (and_parts (below_all text_cmp pair.0 pairs) (is_sorted text_cmp pairs) asc).0) in
        let not_first : within (between low middle) pair.0 ≡ false = and_right (is_up_to low pair.0) (is_below pair.0 middle) past in
        let from : is_up_to low pair.0 ≡ true = up_to_trans low middle pair.0 first up in
        let one : within (between middle high) pair.0 ≡ within (between low high) pair.0 = ap (λ b. b && is_below pair.0 high) (up ∙ sym from) in
        back (within (between low middle) pair.0) (within (between middle high) pair.0) (within (between low high) pair.0) pair
        (pairs_within (between low middle) pairs) (pairs_within (between middle high) pairs) (pairs_within (between low high) pairs) one not_first none ih

-- ---- parts that join to a range

-- where parts join from one text up to another, the one is not above the other
pub join_order : (low high : Text) (parts : List Range) → JoinUpTo low high parts → is_up_to low high ≡ true
join_order low high [] joins = subst (λ t. is_up_to low t ≡ true) joins (up_to_itself low)
join_order low high (part ∷ parts) joins =
    subst (λ t. is_up_to t high ≡ true) joins.0 (up_to_trans part.low part.high high (up_to_from_below part.low part.high joins.1) (join_order part.high high parts joins.2))

-- no key is in a range whose bounds are one text
nothing_between : (low high key : Text) → low ≡ high → within (between low high) key ≡ false
nothing_between low high key e = by (cases_Bool (is_up_to low key))
  where
    by : (is_up_to low key ≡ true) ⊎ (is_up_to low key ≡ false) → within (between low high) key ≡ false
    by (inl up) = and_right (is_up_to low key) (is_below key high) (ap (is_below key) (sym e) ∙ not-true (is_below key low) (sym (up_to-not_below low key) ∙ up))
    by (inr none) = and_left (is_up_to low key) (is_below key high) none

no_pairs : (low high : Text) (table : Table) → low ≡ high → pairs_within (between low high) table ≡ []
no_pairs low high table e = filter_none (λ (pair : Text × Text). within (between low high) pair.0) table (each table)
  where
    each : (pairs : Table) → AllByRecursion (λ (pair : Text × Text). within (between low high) pair.0 ≡ false) pairs
    each [] = tt
    each (pair ∷ pairs) = (nothing_between low high pair.0 e, each pairs)

-- the pairs in parts, in order
parts_from : (low high : Text) (parts : List Range) (table : Table) → IsAscending table → JoinUpTo low high parts → flat_map (λ part. pairs_within part table) parts ≡ pairs_within (between low high) table
parts_from low high [] table asc joins = sym (no_pairs low high table joins)
parts_from low high (part ∷ parts) table asc joins =
    ap (λ ps. pairs_within part table ++ ps) (parts_from part.high high parts table asc joins.2)
    ∙ two_make_range part.low part.high high table asc (up_to_from_below part.low part.high joins.1) (join_order part.high high parts joins.2)
    ∙ ap (λ t. pairs_within (between t high) table) joins.0

-- the pairs in parts that join to a range
pub parts_make_range : PartsMakeRange
parts_make_range range parts table asc joins = parts_from range.low range.high parts table asc joins

-- parts lie between the bounds
within_bounds : (low high : Text) (parts : List Range) → JoinUpTo low high parts → AllByRecursion (λ part. IsWithin part (between low high)) parts
within_bounds low high [] joins = tt
within_bounds low high (part ∷ parts) joins =
    let begins : is_up_to low part.low ≡ true = subst (λ t. is_up_to t part.low ≡ true) joins.0 (up_to_itself part.low) in
    let wider = up_to_trans low part.low part.high begins (up_to_from_below part.low part.high joins.1) in (
      record { begins = begins; ends = join_order part.high high parts joins.2 },
      widen part.high parts wider (within_bounds part.high high parts joins.2),
    )
  where
    widen : (middle : Text) (more : List Range) → is_up_to low middle ≡ true → AllByRecursion (λ part. IsWithin part (between middle high)) more → AllByRecursion (λ part. IsWithin part (between low high)) more
    widen middle [] up all = tt
    widen middle (p ∷ ps) up all = (record { begins = up_to_trans low middle p.low up all.0.begins; ends = all.0.ends }, widen middle ps up all.1)

-- each part lies within the range
pub parts_are_within : PartsAreWithin
parts_are_within range parts joins =
    within_bounds range.low range.high parts joins

-- a key of a part that lies within a range is one of the range
pub within_is_kept : WithinIsKept
within_is_kept part range key lies inside =
    let parts = and_parts (is_up_to part.low key) (is_below key part.high) inside in
    and_from _ _ (up_to_trans range.low part.low key lies.begins parts.0) (below_up_to key part.high range.high parts.1 lies.ends)

-- the pairs of a part, from those of a range
pub part_of_range : PartOfRange
part_of_range part range [] lies = refl
part_of_range part range (pair ∷ pairs) lies =
    by (within range pair.0) (within part pair.0) (lies pair.0) refl (part_of_range part range pairs lies)
  where
    apart : (within part pair.0 ≡ true → within range pair.0 ≡ true) → within range pair.0 ≡ false → within part pair.0 ≡ false
    apart wide e = false_from_ne_true (within part pair.0) (λ t. false≢true (sym e ∙ wide t))

    by : (a b : Bool) → (within part pair.0 ≡ true → within range pair.0 ≡ true) → within range pair.0 ≡ a → pairs_within part (pairs_within range pairs) ≡ pairs_within part pairs →
        pairs_within part (pairs_within range (pair ∷ pairs)) ≡ pairs_within part (pair ∷ pairs)
    by true b wide e ih = ap (pairs_within part) (cond-true (within range pair.0) (pair ∷ pairs_within range pairs) (pairs_within range pairs) e) ∙ ap (λ ps. cond (within part pair.0) (pair ∷ ps) ps) ih
    by false true wide e ih = ap (pairs_within part) (cond-false (within range pair.0) (pair ∷ pairs_within range pairs) (pairs_within range pairs) e) ∙ ih ∙ sym (cond-false (within part pair.0) (pair ∷ pairs_within part pairs) (pairs_within part pairs) (apart wide e))
    by false false wide e ih = ap (pairs_within part) (cond-false (within range pair.0) (pair ∷ pairs_within range pairs) (pairs_within range pairs) e) ∙ ih ∙ sym (cond-false (within part pair.0) (pair ∷ pairs_within part pairs) (pairs_within part pairs) (apart wide e))

-- ---- one part alone

-- a key between the bounds is held by one part
held_once : (low high : Text) (parts : List Range) (key : Text) → JoinUpTo low high parts → within (between low high) key ≡ true → IsHeldOnce parts key
held_once low high [] key joins inside = absurd (false≢true (sym (nothing_between low high key joins) ∙ inside))
held_once low high (part ∷ parts) key joins inside =
    let bounds = and_parts (is_up_to low key) (is_below key high) inside in
    elim (cases_Bool (is_below key part.high)) [
      | inl less ↦ record {
        place = 0;
        holds = and_from _ _ (subst (λ t. is_up_to t key ≡ true) (sym joins.0) bounds.0) less;
        once = λ other p at holds. first_alone other p at holds less;
      }
      | inr past ↦ (
          let up : is_up_to part.high key ≡ true = up_to_from_not_below key part.high past in
          let rest = held_once part.high high parts key joins.2 (and_from _ _ up bounds.1) in
          record { place = suc rest.place; holds = rest.holds; once = λ other p at holds. later_alone rest other p at holds past })
    ]
  where
    first_alone : (other : ℕ) (p : Range) → slice_get (part ∷ parts) other ≡ Some p → within p key ≡ true → is_below key part.high ≡ true → other ≡ 0
    first_alone zero p at holds less = refl
    first_alone (suc other) p at holds less =
        let from = (all_at (λ x. IsWithin x (between part.high high)) parts other p (within_bounds part.high high parts joins.2) at).begins in
        let up = up_to_trans part.high p.low key from (and_parts (is_up_to p.low key) (is_below key p.high) holds).0 in
        absurd (false≢true (sym (not_up_to_from_below key part.high less) ∙ up))

    later_alone : (rest : IsHeldOnce parts key) (other : ℕ) (p : Range) → slice_get (part ∷ parts) other ≡ Some p → within p key ≡ true → is_below key part.high ≡ false → other ≡ suc rest.place
    later_alone rest zero p at holds past =
        absurd (false≢true (sym past ∙ ap (is_below key) (ap (λ (x : Range). x.high) (same_Some part p at)) ∙ (and_parts (is_up_to p.low key) (is_below key p.high) holds).1))
    later_alone rest (suc other) p at holds past = ap suc (rest.once other p at holds)

-- each key of the range is held by one part
pub keys_are_held_once : KeysAreHeldOnce
keys_are_held_once range parts key joins inside = held_once range.low range.high parts key joins inside
