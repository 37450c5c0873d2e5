-- What changed in the state between two positions, by what was read at both.
use Rattle.std.proofs.Common.{◌≡◌, ℕ, ◌+◌, ◌<◌, ◌≤◌, ◌⊎◌, Bool, true, false, cond, List, [], ◌∷◌, ◌++◌, get_or, map, take, length, Option, None, refl, sym, ap, ◌∙◌, subst, inl, inr, arith}
use Rattle.std.proofs.lemmas.List.{flat_map_more, take_more}
use Rattle.semantics.specs.Texts.{Text, Range, within, Table, value_at, pairs_within}
use Rattle.semantics.specs.Histories.{History}
use Rattle.semantics.specs.States.{merged, below, state}
use Rattle.semantics.proofs.TableLemmas.{IsAscending, same_tables}
use Rattle.semantics.proofs.MergedLemmas.{ascending-pairs_within, value_at-pairs_within}
use Rattle.semantics.proofs.StateLemmas.{ascending-state, state-below}
use Rattle.layering.specs.Merging.{Ascends}
use Rattle.layering.proofs.MergeLemmas.{merged_within}
use Rattle.growing_history.proofs.PrefixLemmas.{take_prefix}
use Rattle.key_ranges.specs.Ranges.{just}
use Rattle.join_set.specs.Sets.{Joins, AreJoins}
use Rattle.write_history.specs.Marks.{reach}
use Rattle.write_history.specs.Passes.{PassView}
use Rattle.write_history.specs.declared.known.Mark.{Mark}
use Rattle.base_shards.specs.Reading.{ReachesBack, ReadsOn}
use Rattle.join_eval.specs.Answers.{ListsChanges, AnswersChanges}
use Rattle.join_eval.specs.declared.reading.Changed.{Changed}
use Rattle.join_eval.specs.declared.reading.Changed.TheVariants.{Keys, All}
use Rattle.growing_history.specs.StateChanges.{changes_among, changes_between, changes}
use Rattle.growing_history.proofs.ListLemmas.{changes_among_keys, changes_of_pairs}
use Rattle.range_cells.specs.Asked.{TellsTouched, pairs_asked, pairs_at}
use Rattle.range_cells.specs.Comparing.{changes_of}
use Rattle.range_cells.proofs.ComparingLemmas.{ascending-pairs_at, changes_at_keys}

-- ---- keys one after another

-- the pairs at the keys so far, and at the next
pub keys_next : (keys : List Text) (i : ℕ) (key : Text) (table : Table) → i < length keys → key ≡ get_or keys i key →
    pairs_at (take i keys) table ++ pairs_within (just key) table ≡ pairs_at (take (i + 1) keys) table
keys_next keys i key table less is =
    flat_map_more (λ k. pairs_within (just k) table) [] (take i keys) key
    ∙ ap (λ ks. pairs_at ks table) (ap (λ k. take i keys ++ k ∷ []) is ∙ sym (take_more keys i key less))

-- ---- what is asked of a range

-- where few keys were told, they are those, and otherwise it is not said which
pub few_touched : (h : History) (q p : ℕ) (range : Range) (told few : Changed) → (few ≡ told) ⊎ (few ≡ All) → AnswersChanges h q p 8 range told → TellsTouched h q p range few
few_touched h q p range told few (inr all) answers = subst (TellsTouched h q p range) (sym all) tt
few_touched h q p range told few (inl same) answers = subst (TellsTouched h q p range) (sym same) (by told answers)
  where
    by : (c : Changed) → AnswersChanges h q p 8 range c → TellsTouched h q p range c
    by (Keys keys) listed = listed
    by All unknown = tt

-- the pairs that are asked of a table ascend
pub ascends_asked : (h : History) (q p : ℕ) (range : Range) (touched : Changed) (table : Table) → TellsTouched h q p range touched → IsAscending table → Ascends (pairs_asked touched range table)
ascends_asked h q p range (Keys keys) table listed up = ascending-pairs_at keys.items table listed.ascend up
ascends_asked h q p range All table told up = ascending-pairs_within range table up

-- keys that a reader lists are all that changed
listed_changes : (h : History) (q p : ℕ) (range : Range) (keys : List Text) → q ≤ p → ListsChanges h q p 8 range keys →
    changes_among keys (state (take q h)) (state (take p h)) ≡ changes range h q p
unfolding changes
listed_changes h q p range keys order listed =
    changes_among_keys range (state (take q h)) (state (take p h)) keys (ascending-state (take q h)) (ascending-state (take p h)) (record {
      ascend = listed.ascend;
      inside = listed.inside;
      complete = λ key inside none.
          let same : value_at key (below (take p h) 8) ≡ value_at key (below (take q h) 8) = listed.complete key inside none p order (omega arith) in
          ap (value_at key) (state-below (take q h)) ∙ sym same ∙ sym (ap (value_at key) (state-below (take p h)));
    })

-- the pairs of a range are those of the range among them
inside_twice : (b : Bool) (v : Option Text) → cond b (cond b v None) None ≡ cond b v None
inside_twice true v = refl
inside_twice false v = refl

within_twice : (range : Range) (table : Table) → IsAscending table → pairs_within range (pairs_within range table) ≡ pairs_within range table
within_twice range table up =
    same_tables (pairs_within range (pairs_within range table)) (pairs_within range table)
    (ascending-pairs_within range (pairs_within range table) (ascending-pairs_within range table up)) (ascending-pairs_within range table up)
    (λ q.
    value_at-pairs_within range q (pairs_within range table) ∙ ap (λ v. cond (within range q) v None) (value_at-pairs_within range q table)
    ∙ inside_twice (within range q) (value_at q table) ∙ sym (value_at-pairs_within range q table))

-- the changes between pairs of a range are at keys of the range
changes_inside : (range : Range) (before after : Table) → IsAscending before → IsAscending after →
    changes_of (pairs_within range before) (pairs_within range after) ≡ changes_between range (pairs_within range before) (pairs_within range after)
changes_inside range before after up other =
    let old : Table = pairs_within range before in
    let new : Table = pairs_within range after in
    let same : pairs_within range (merged old new) ≡ merged old new =
    merged_within range old new (ascending-pairs_within range before up) (ascending-pairs_within range after other) ∙ (λ i. merged (within_twice range before up i) (within_twice range after other i)) in
    sym (ap (λ table. changes_among (map (λ pair. pair.0) table) old new) same)

-- what is asked of a range at both positions tells its changes
pub asked_changes : (h : History) (q p : ℕ) (range : Range) (touched : Changed) → q ≤ p → TellsTouched h q p range touched →
    changes_of (pairs_asked touched range (state (take q h))) (pairs_asked touched range (state (take p h))) ≡ changes range h q p
unfolding changes
asked_changes h q p range (Keys keys) order listed =
    changes_at_keys keys.items (state (take q h)) (state (take p h)) listed.ascend (ascending-state (take q h)) (ascending-state (take p h))
    ∙ listed_changes h q p range keys.items order listed
asked_changes h q p range All order told =
    changes_inside range (state (take q h)) (state (take p h)) (ascending-state (take q h)) (ascending-state (take p h))
    ∙ changes_of_pairs range (state (take q h)) (state (take p h)) (ascending-state (take q h)) (ascending-state (take p h))

-- ---- a pass that has read on

-- the state after the first entries that it had seen is that state still
pub state_still : (old new : PassView) (p : ℕ) → ReadsOn old new → p ≤ length old.view → state (take p new.view) ≡ state (take p old.view)
state_still old new p on within = ap state (take_prefix p old.view new.view within on.begins)

-- it reaches as far back
pub reach_still : (old new : PassView) (p : ℕ) → ReadsOn old new → reach old.mark ≤ p → reach new.mark ≤ p
reach_still old new p on above = subst (λ (m : Mark). reach m ≤ p) (sym on.same_mark) above

-- joins of the first entries that it had seen are those joins still
pub joins_still : (old new : PassView) (p : ℕ) (joins : Joins) → ReadsOn old new → p ≤ length old.view → AreJoins (reach old.mark) joins (take p old.view) → AreJoins (reach new.mark) joins (take p new.view)
joins_still old new p joins on within are =
    subst (λ (m : Mark). AreJoins (reach m) joins (take p new.view)) (sym on.same_mark)
    (subst (AreJoins (reach old.mark) joins) (sym (take_prefix p old.view new.view within on.begins)) are)

-- it reaches back to a later position
pub reaches_later : (pass : PassView) (q p : ℕ) → q ≤ p → ReachesBack pass q → ReachesBack pass p
reaches_later pass q p up back = record { pin = back.pin; pinned = back.pinned; near = omega (arith, up, back.near) }
