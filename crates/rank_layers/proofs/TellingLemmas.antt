-- What changed in the outputs of joins, in parts of a range, in a range, and of several joins.
use Rattle.std.proofs.Common.{◌≡◌, ◌⊎◌, ◌↔◌, ℕ, ◌+◌, ◌<◌, ◌≤◌, true, false, List, [], ◌∷◌, ◌++◌, get_or, length, map, take, slice_get, Contains, Some, Less, Result, Ok, Err, IfOk, Vec, sym, ap, ◌∙◌, subst, inl, inr, ⊎_elim, arith}
use Rattle.std.specs.declared.alloc.Global.{Global}
use Rattle.std.specs.List.{AllByRecursion}
use Rattle.std.specs.List.Sorted.{IsStrictlySortedBy}
use Rattle.std.proofs.lemmas.Bool.{and_from, and_parts, cases_Bool, false≢true}
use Rattle.std.proofs.lemmas.List.{length-map, map-append, take_all, take_more}
use Rattle.std.proofs.lemmas.Option.{slice_get_within, get_or_from_slice_get}
use Rattle.semantics.specs.Texts.{Text, text_cmp, Range, value_at, within}
use Rattle.semantics.specs.Joins.{Join}
use Rattle.semantics.specs.Histories.{History, IsPrefix, DeclaredJoin, joins_of}
use Rattle.semantics.specs.Outputs.{out}
use Rattle.semantics.specs.States.{below}
use Rattle.semantics.proofs.MemberLemmas.{has_from_contains, contains_from_has, has_append_left, has_append_right}
use Rattle.semantics.proofs.Members.{AllByRecursion-append}
use Rattle.key_ranges.specs.Ranges.{is_below, is_open}
use Rattle.key_ranges.proofs.OrderLemmas.{is_up_to, up_to_itself, up_to_from_below, up_to_from_not_below, not_up_to_from_below, up_to_below, below_up_to, up_to_trans}
use Rattle.growing_history.proofs.ElementLemmas.{all_from_has, all_then, has_of_all}
use Rattle.growing_history.proofs.PrefixLemmas.{take_prefix}
use Rattle.layering.specs.Parts.{JoinUpTo, JoinTo}
use Rattle.layering.specs.Reached.{reached}
use Rattle.layering.specs.Standing.{SameOutput}
use Rattle.layering.proofs.PartLemmas.{join_order, within_is_kept}
use Rattle.join_eval.specs.declared.reading.Changed.{Changed}
use Rattle.join_eval.specs.declared.reading.Changed.TheVariants.{Keys, All}
use Rattle.join_eval.specs.declared.reading.Changes.{Changes}
use Rattle.join_eval.specs.declared.reading.Changes.TheVariants.{Listed, Unlisted}
use Rattle.join_eval.specs.Answers.{change_keys}
use Rattle.kept_ranges.specs.Sound.{KeptRange}
use Rattle.range_state.specs.Since.{AnswersSince}
use Rattle.cell_slots.specs.Telling.{TellsOutput}
use Rattle.cell_slots.specs.declared.slot.Part.{Part}
use Rattle.cell_slots.specs.declared.slot.Slot.{Slot}
use Rattle.cell_slots.specs.declared.slot.Slot.TheVariants.{Held}
use Rattle.cell_slots.specs.Slots.{Holdings, IsDeclared, Takes}
use Rattle.cell_slots.proofs.DeclaredLemmas.{declared_once}
use Rattle.rank_layers.specs.Telling.{AddsChanges, AddsTold, CanTell, IsUnknownSince, ListsAdded, ListsJoin, TellsJoin}
use Rattle.rank_layers.proofs.KeyLemmas.{less_from_lt}

-- ---- lists

-- the first elements with the next one
taken_more : {A : Type 0} (xs : List A) (i : ℕ) (x : A) → slice_get xs i ≡ Some x → take (i + 1) xs ≡ take i xs ++ x ∷ []
taken_more xs i x is = take_more xs i x (slice_get_within xs i x is) ∙ ap (λ y. take i xs ++ y ∷ []) (get_or_from_slice_get xs i x x is)

-- texts below a text, and then texts that are not, ascend where both do
sorted_append : (middle : Text) (xs ys : List Text) → AllByRecursion (λ x. is_below x middle ≡ true) xs → AllByRecursion (λ y. is_up_to middle y ≡ true) ys →
    IsStrictlySortedBy text_cmp xs → IsStrictlySortedBy text_cmp ys → IsStrictlySortedBy text_cmp (xs ++ ys)
unfolding IsStrictlySortedBy
sorted_append middle [] ys low high up other = other
sorted_append middle (x ∷ xs) ys low high up other = (
  AllByRecursion-append (λ y. text_cmp x y ≡ Less) xs ys up.0 (all_then (λ y. is_up_to middle y ≡ true) (λ y. text_cmp x y ≡ Less) ys (λ y above. less_from_lt (text_cmp x y) (below_up_to x middle y low.0 above)) high),
  sorted_append middle xs ys low.1 high up.1 other,
)

-- no texts ascend
nothing_ascends : IsStrictlySortedBy text_cmp []
unfolding IsStrictlySortedBy
nothing_ascends = tt

-- ---- over longer histories

-- at a key a join makes the same over a list with the same first entries
same_output_over : (h more : History) (q p rank : ℕ) (key : Text) (j : Join) → q ≤ p → p ≤ length h → IsPrefix h more → SameOutput more q p rank key j → SameOutput h q p rank key j
same_output_over h more q p rank key j order less prefix same x from to =
    let first : (y : ℕ) → y ≤ p → take y more ≡ take y h = λ y up. take_prefix y h more (omega arith) prefix in
    ap (λ l. value_at key (out j (below l rank))) (sym (first x to)) ∙ same x from to ∙ ap (λ l. value_at key (out j (below l rank))) (first q order)

-- keys that are listed for a join over the one are so over the other
pub lists_over : (h more : History) (q p rank : ℕ) (j : Join) (range : Range) (keys : List Text) → q ≤ p → p ≤ length h → IsPrefix h more → ListsJoin more q p rank j range keys → ListsJoin h q p rank j range keys
lists_over h more q p rank j range keys order less prefix lists = record {
  ascend = lists.ascend;
  inside = lists.inside;
  complete = λ key inside unlisted. same_output_over h more q p rank key j order less prefix (lists.complete key inside unlisted);
}

-- and so for several joins
added_over : (h more : History) (q p rank : ℕ) (range : Range) (given keys : List Text) → q ≤ p → p ≤ length h → IsPrefix h more →
    ListsAdded more q p rank range (reached range rank (joins_of (take p more))) given keys → ListsAdded h q p rank range (reached range rank (joins_of (take p h))) given keys
added_over h more q p rank range given keys order less prefix added = record {
  ascend = added.ascend;
  inside = added.inside;
  keeps = added.keeps;
  complete = λ key inside unlisted.
      subst (λ l. AllByRecursion (λ s. SameOutput h q p rank key s.join) (reached range rank (joins_of l))) (take_prefix p h more less prefix)
      (all_then (λ (s : DeclaredJoin). SameOutput more q p rank key s.join) (λ s. SameOutput h q p rank key s.join) (reached range rank (joins_of (take p more)))
      (λ s. same_output_over h more q p rank key s.join order less prefix) (added.complete key inside unlisted));
}

pub adds_over : (h more : History) (q p rank : ℕ) (range : Range) (given : List Text) (answer : Changed) → q ≤ p → p ≤ length h → IsPrefix h more →
    AddsChanges more q p rank range (reached range rank (joins_of (take p more))) given answer → AddsChanges h q p rank range (reached range rank (joins_of (take p h))) given answer
adds_over h more q p rank range given (Keys keys) order less prefix added = added_over h more q p rank range given keys.items order less prefix added
adds_over h more q p rank range given All order less prefix added = tt

-- also with values
pub told_over : (h more : History) (q p rank : ℕ) (range : Range) (given : List Text) (answer : Changes) → q ≤ p → p ≤ length h → IsPrefix h more →
    AddsTold more q p rank range (reached range rank (joins_of (take p more))) given answer → AddsTold h q p rank range (reached range rank (joins_of (take p h))) given answer
told_over h more q p rank range given (Listed changes) order less prefix added = added_over h more q p rank range given (change_keys changes.items) order less prefix added
told_over h more q p rank range given Unlisted order less prefix added = tt

-- ---- one part

-- what a kept range that was lent says of its output in a part, it says of the join's
pub told_of_part : (h more : History) (floor : ℕ) (before lent : Holdings) (id at rank q p : ℕ) (part : Range) (state : KeptRange) (j : Join) (answer : Changed) → Takes h floor before lent id at rank p part state →
    more ≡ h → IsDeclared h at j → TellsOutput state more q p part answer → TellsJoin h q p rank j part answer
told_of_part h more floor before lent id at rank q p part state j (Keys keys) takes same declared told = record {
  ascend = told.ascend;
  inside = told.inside;
  complete = λ key inside unlisted x from to.
      let step : (y : ℕ) → value_at key (out state.join (below (take y more) state.rank)) ≡ value_at key (out j (below (take y h) rank)) =
      λ y i. value_at key (out (declared_once h at state.join j takes.right.declared declared i) (below (take y (same i)) (takes.ranked i))) in
      sym (step x) ∙ told.complete x key from to (within_is_kept part state.range key takes.whole inside) inside unlisted ∙ step q;
}
told_of_part h more floor before lent id at rank q p part state j All takes same declared told = tt

-- ---- parts that join

-- a range with a key is not empty
open_with : (range : Range) (key : Text) → within range key ≡ true → is_open range ≡ true
open_with range key inside = let parts = and_parts _ _ inside in up_to_below range.low key range.high parts.0 parts.1

-- nothing is listed of no parts
pub lists_none : (h : History) (q p rank : ℕ) (j : Join) (range : Range) → JoinTo range [] → ListsJoin h q p rank j range []
lists_none h q p rank j range joins = record {
  ascend = nothing_ascends;
  inside = tt;
  complete = λ key inside unlisted.
      let opened : is_below range.high range.high ≡ true = subst (λ t. is_below t range.high ≡ true) joins (open_with range key inside) in
      absurd (false≢true (sym (not_up_to_from_below range.high range.high opened) ∙ up_to_itself range.high));
}

-- parts that join with one more join without it up to where it begins
join_last : (low high : Text) (parts : List Range) (part : Range) → JoinUpTo low high (parts ++ part ∷ []) → JoinUpTo low part.low parts × (is_open part ≡ true) × (part.high ≡ high)
join_last low high [] part joins = (sym joins.0, joins.1, joins.2)
join_last low high (r ∷ parts) part joins = let more = join_last r.high high parts part joins.2 in ((joins.0, joins.1, more.0), more.1, more.2)

abbrev from_to : Text → Text → Range
from_to low high = record { low = low; high = high }

-- the keys of two ranges that join, one list after the other
lists_two : (h : History) (q p rank : ℕ) (j : Join) (low middle high : Text) (xs ys : List Text) → is_up_to low middle ≡ true → is_below middle high ≡ true →
    ListsJoin h q p rank j (from_to low middle) xs → ListsJoin h q p rank j (from_to middle high) ys → ListsJoin h q p rank j (from_to low high) (xs ++ ys)
lists_two h q p rank j low middle high xs ys first last one two = record {
  ascend = sorted_append middle xs ys
      (all_then (λ x. within (from_to low middle) x ≡ true) (λ x. is_below x middle ≡ true) xs (λ x inside. (and_parts (is_up_to low x) (is_below x middle) inside).1) one.inside)
      (all_then (λ y. within (from_to middle high) y ≡ true) (λ y. is_up_to middle y ≡ true) ys (λ y inside. (and_parts (is_up_to middle y) (is_below y high) inside).0) two.inside)
      one.ascend two.ascend;
  inside = AllByRecursion-append (λ key. within (from_to low high) key ≡ true) xs ys
      (all_then (λ x. within (from_to low middle) x ≡ true) (λ x. within (from_to low high) x ≡ true) xs
      (λ x inside. let parts = and_parts (is_up_to low x) (is_below x middle) inside in and_from (is_up_to low x) (is_below x high) parts.0 (below_up_to x middle high parts.1 (up_to_from_below middle high last))) one.inside)
      (all_then (λ y. within (from_to middle high) y ≡ true) (λ y. within (from_to low high) y ≡ true) ys
      (λ y inside. let parts = and_parts (is_up_to middle y) (is_below y high) inside in and_from (is_up_to low y) (is_below y high) (up_to_trans low middle y first parts.0) parts.1) two.inside);
  complete = λ key inside unlisted.
      let parts = and_parts (is_up_to low key) (is_below key high) inside in
      ⊎_elim
      (λ (early : is_below key middle ≡ true). one.complete key (and_from (is_up_to low key) (is_below key middle) parts.0 early)
      (λ has. unlisted (contains_from_has (xs ++ ys) key (has_append_left xs ys key (has_from_contains xs key has)))))
      (λ (late : is_below key middle ≡ false). two.complete key (and_from (is_up_to middle key) (is_below key high) (up_to_from_not_below key middle late) parts.1)
      (λ has. unlisted (contains_from_has (xs ++ ys) key (has_append_right xs ys key (has_from_contains ys key has)))))
      (cases_Bool (is_below key middle));
}

-- what is listed of parts that join, each of which is a thing with a range, with what is listed of one more
pub lists_more : {A : Type 0} (f : A → Range) (h : History) (q p rank : ℕ) (j : Join) (range : Range) (parts : List A) (i : ℕ) (part : A) (told more now : List Text) → i < length parts → part ≡ get_or parts i part → now ≡ told ++ more →
    ((r : Range) → JoinTo r (map f (take i parts)) → ListsJoin h q p rank j r told) → ListsJoin h q p rank j (f part) more →
    JoinTo range (map f (take (i + 1) parts)) → ListsJoin h q p rank j range now
lists_more f h q p rank j range parts i part told more now less is added before next joins =
    let ranges : map f (take (i + 1) parts) ≡ map f (take i parts) ++ f part ∷ [] =
    ap (map f) (take_more parts i part less ∙ ap (λ y. take i parts ++ y ∷ []) (sym is)) ∙ map-append f (take i parts) (part ∷ []) in
    let last = join_last range.low range.high (map f (take i parts)) (f part) (subst (JoinUpTo range.low range.high) ranges joins) in
    subst (ListsJoin h q p rank j range) (sym added)
    (lists_two h q p rank j range.low (f part).low range.high told more (join_order range.low (f part).low (map f (take i parts)) last.0)
    (subst (λ t. is_below (f part).low t ≡ true) last.2 last.1)
    (before (from_to range.low (f part).low) last.0)
    (subst (λ t. ListsJoin h q p rank j (from_to (f part).low t) more) last.2 next))

-- ---- one join after another

-- given keys of a range, with no join
pub added_none : (h : History) (q p rank : ℕ) (range : Range) (joins : List DeclaredJoin) (given : List Text) → IsStrictlySortedBy text_cmp given → AllByRecursion (λ key. within range key ≡ true) given →
    ListsAdded h q p rank range (take 0 joins) given given
added_none h q p rank range joins given ascend inside = record { ascend = ascend; inside = inside; keeps = λ key has. has; complete = λ key inside unlisted. tt }

-- with one join more
pub added_more : (h : History) (q p rank : ℕ) (range : Range) (joins : List DeclaredJoin) (i : ℕ) (s : DeclaredJoin) (given old more now : List Text) → slice_get joins i ≡ Some s →
    ListsAdded h q p rank range (take i joins) given old → ListsJoin h q p rank s.join range more → IsStrictlySortedBy text_cmp now → ((key : Text) → Contains now key ↔ (Contains old key ⊎ Contains more key)) →
    ListsAdded h q p rank range (take (i + 1) joins) given now
added_more h q p rank range joins i s given old more now is before next ascend same = record {
  ascend = ascend;
  inside = all_from_has (λ key. within range key ≡ true) now (λ key has. ⊎_elim
      (λ (first : Contains old key). has_of_all (λ k. within range k ≡ true) old key before.inside (has_from_contains old key first))
      (λ (other : Contains more key). has_of_all (λ k. within range k ≡ true) more key next.inside (has_from_contains more key other))
      ((same key).0 (contains_from_has now key has)));
  keeps = λ key has. (same key).1 (inl (before.keeps key has));
  complete = λ key inside unlisted.
      subst (AllByRecursion (λ s. SameOutput h q p rank key s.join)) (sym (taken_more joins i s is))
      (AllByRecursion-append (λ s. SameOutput h q p rank key s.join) (take i joins) (s ∷ []) (before.complete key inside (λ has. unlisted ((same key).1 (inl has))))
      (next.complete key inside (λ has. unlisted ((same key).1 (inr has))), tt));
}

-- with all joins that a list names
pub added_all : (h : History) (q p rank : ℕ) (range : Range) (joins : List DeclaredJoin) (ats : List ℕ) (i : ℕ) (given keys : List Text) → ats ≡ map (λ s. s.position) joins → length ats ≤ i →
    ListsAdded h q p rank range (take i joins) given keys → ListsAdded h q p rank range joins given keys
added_all h q p rank range joins ats i given keys is past lists =
    let long : length ats ≡ length joins = ap length is ∙ length-map joins (λ s. s.position) in
    subst (λ js. ListsAdded h q p rank range js given keys) (take_all i joins (omega (arith, past, long))) lists

-- ---- where it is not known what changed

-- keys are known
pub keys_known : (keys : Vec Text Global) → Keys keys ≡ All → ⊥
keys_known keys e = cc

-- what is said of what the cell of a part holds, whatever it answers, says that it does not know where it answers so
pub unknown_by : {E : Type 0} (r : Result Changed E) (before after : List Slot) (at rank p since : ℕ) (part : Part) →
    ((id : ℕ) (held : KeptRange) → part.cell ≡ Some id → slice_get before id ≡ Some (Held at held) → CanTell rank p part.range held → IfOk r (λ told. (kept : KeptRange) → slice_get after id ≡ Some (Held at kept) → AnswersSince since part.range kept told)) →
    IfOk r (λ told. told ≡ All → IsUnknownSince before after at rank p since part)
unknown_by (Ok told) before after at rank p since part says = λ all id held kept cell stands can there.
    subst (AnswersSince since part.range kept) all (says id held cell stands can kept there)
unknown_by (Err e) before after at rank p since part says = tt
