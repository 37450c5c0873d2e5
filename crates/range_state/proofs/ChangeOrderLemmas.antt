-- Changes put in order of their keys.
use Rattle.std.proofs.Common.{◌≡◌, ◌↔◌, Bool, List, [], ◌∷◌, Contains, Less, is_lt, sym, ◌∙◌, subst}
use Rattle.std.specs.Cmp.{on_equiv, on_total}
use Rattle.std.specs.Cmp.Lexicographic.{nat_list_eq_equiv}
use Rattle.std.specs.Ordering.{on}
use Rattle.std.specs.List.{AllByRecursion, dedup}
use Rattle.std.specs.List.Sorted.{IsStrictlySortedBy, IsSortedBy, IsPermutation}
use Rattle.std.proofs.lemmas.List.Kept.{Any-dedup, Contains-from_dedup, IsStrictlySortedBy-dedup}
use Rattle.std.proofs.lemmas.List.Sorted.{Contains-permutation, IsPermutation-sym}
use Rattle.semantics.specs.Texts.{Text, text_cmp, same}
use Rattle.semantics.proofs.MemberLemmas.{Has, has_from_contains, contains_from_has, has_map, has_mapped}
use Rattle.semantics.proofs.PieceLemmas.{equal_by_same}
use Rattle.semantics.proofs.TableLemmas.{text_total, same_is_tie}
use Rattle.growing_history.proofs.ElementLemmas.{all_from_has}
use Rattle.growing_history.specs.StateChanges.{Change}
use Rattle.join_eval.specs.Answers.{change_keys}

-- whether two changes are of one key
abbrev pub same_key : Change → Change → Bool
same_key x y = same x.key y.key

later_keys : (key : Text) (cs : List Change) → AllByRecursion (λ (c : Change). text_cmp key c.key ≡ Less) cs → AllByRecursion (λ k. text_cmp key k ≡ Less) (change_keys cs)
later_keys key [] h = tt
later_keys key (c ∷ cs) h = (h.0, later_keys key cs h.1)

-- changes that ascend by their keys have keys that ascend
keys_ascend : (cs : List Change) → IsStrictlySortedBy (on (λ (c : Change). c.key) text_cmp) cs → IsStrictlySortedBy text_cmp (change_keys cs)
unfolding IsStrictlySortedBy
keys_ascend [] h = tt
keys_ascend (c ∷ cs) h = (later_keys c.key cs h.0, keys_ascend cs h.1)

-- sorted by their keys, and one kept of each key, they have keys that ascend
pub ascend_merged : (cs : List Change) → IsSortedBy (λ (x y : Change). is_lt (text_cmp x.key y.key)) cs → IsStrictlySortedBy text_cmp (change_keys (dedup same_key cs))
ascend_merged cs sorted = keys_ascend (dedup same_key cs) (IsStrictlySortedBy-dedup (on_total (λ (c : Change). c.key) text_total) (λ x y. same_is_tie x.key y.key) cs sorted)

-- the keys are those of the given changes
pub keys_merged : (given sorted : List Change) (key : Text) → IsPermutation given sorted → Contains (change_keys (dedup same_key sorted)) key ↔ Contains (change_keys given) key
keys_merged given sorted key moved = (
  λ h.
      let kept = dedup same_key sorted in
      let w = has_map (λ (c : Change). c.key) kept key (has_from_contains (change_keys kept) key h) in
      let there = Contains-permutation sorted given w.0 (IsPermutation-sym given sorted moved) (Contains-from_dedup same_key sorted w.0 (contains_from_has kept w.0 w.1)) in
      contains_from_has (change_keys given) key (subst (λ (k : Text). Has (change_keys given) k) w.2 (has_mapped (λ (c : Change). c.key) given w.0 (has_from_contains given w.0 there))),
  λ h.
      let kept = dedup same_key sorted in
      let w = has_map (λ (c : Change). c.key) given key (has_from_contains (change_keys given) key h) in
      let there = Contains-permutation given sorted w.0 moved (contains_from_has given w.0 w.1) in
      let left = Any-dedup (on_equiv (λ (c : Change). c.key) nat_list_eq_equiv) sorted w.0 there in
      let one : Change = left.1 in
      let is : one.key ≡ key = sym (equal_by_same w.0.key one.key left.4) ∙ w.2 in
      contains_from_has (change_keys kept) key (subst (λ (k : Text). Has (change_keys kept) k) is (has_mapped (λ (c : Change). c.key) kept one (has_from_contains kept one (left.0, left.2, left.3)))),
)

-- and the changes are among the given ones
pub among_merged : (given sorted : List Change) → IsPermutation given sorted → AllByRecursion (Contains given) (dedup same_key sorted)
among_merged given sorted moved = all_from_has (Contains given) (dedup same_key sorted) (λ c h.
    Contains-permutation sorted given c (IsPermutation-sym given sorted moved) (Contains-from_dedup same_key sorted c (contains_from_has (dedup same_key sorted) c h)))
