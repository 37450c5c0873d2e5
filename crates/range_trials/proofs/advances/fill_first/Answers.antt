use Rattle.std.proofs.Common.{◌≡◌, ℕ, List, [], Some, None, take, true, Option, MatchOption, refl, sym, ap, ◌∙◌, subst, arith}
use Rattle.std.specs.List.{AllByRecursion}
use Rattle.std.proofs.lemmas.List.{take_all}
use Rattle.semantics.specs.Texts.{is_range, Range, pairs_within}
use Rattle.semantics.specs.Patterns.{Slots}
use Rattle.semantics.specs.Joins.{Join, is_join}
use Rattle.semantics.specs.Histories.{History, DeclaredJoin, joins_of}
use Rattle.semantics.specs.Outputs.{out}
use Rattle.semantics.specs.States.{below}
use Rattle.semantics.proofs.StateLemmas.{ascending-below}
use Rattle.key_ranges.specs.Containing.{range_slots}
use Rattle.growing_history.specs.Entered.{HasEntered, HasRank}
use Rattle.growing_history.proofs.ElementLemmas.{all_from_has, has_of_all}
use Rattle.growing_history.proofs.EnteredLemmas.{rank_of_place, has_entered_taken, keeps_rules}
use Rattle.growing_history.proofs.KeyLemmas.{has_keys_below}
use Rattle.range_evaluation.specs.Trees.{Need, tree}
use Rattle.join_eval.proofs.CollectingLemmas.{whole_needs}
use Rattle.join_set.specs.Sets.{Joins}
use Rattle.kept_ranges.specs.Kept.{Kept, CameBy}
use Rattle.kept_ranges.proofs.FillLemmas.{filled_is_right}
use Rattle.range_state.specs.Filling.{CanFill}
use Rattle.range_state.specs.Laws.{NeedCanFill}
use Rattle.list_reader.proofs.RangeSlotLemmas.{slots_of_range}
use Rattle.range_trials.proofs.advances.fill_first.Goals as goal

pub evaluate-requires-clause-own_slots : goal.evaluate-requires-clause-own_slots
evaluate-requires-clause-own_slots g c =
    slots_of_range c.join-join.result.now _ c.args.range.now c.in-Some.slots _ c.shared_are_output_slots.ensures c.join.view_is c.join.invariant c.range_slots.ensures.exact c.in-Some.is

-- the needs of a filled range can fill
tree_can_fill : NeedCanFill → (h : History) (j : Join) (rank : ℕ) (range : Range) (slots : Slots) → HasEntered h → HasRank (joins_of h) j rank → is_join j ≡ true → is_range range.low range.high ≡ true → range_slots j.output range ≡ Some slots →
    AllByRecursion (CanFill j) (tree j slots range (below h rank))
tree_can_fill law h j rank range slots entered stands ok bounds binds =
    let table = below h rank in
    let needs = tree j slots range table in
    let kept : Kept = record { rows = pairs_within range (out j table); needs = needs; pending = [] } in
    let right = filled_is_right j range table kept ok bounds (record { ascending = ascending-below h rank; keys = has_keys_below h rank entered })
    (record { rows = refl; needs = subst (λ (o : Option Slots). MatchOption o (needs ≡ []) (λ found. needs ≡ tree j found range table)) (sym binds) refl; pending = refl }) in
    all_from_has (CanFill j) needs (λ need has. law j table needs need ok (keeps_rules h j rank entered stands) (has_of_all (CameBy j table needs) needs need right.came has))

pub returns : goal.returns
returns g c =
    let h = c.new-reader.result in
    let p = c.length-position.result in
    let j = c.join-join.result.now in
    let rank = c.rank-rank.result in
    let range = c.args.range.now in
    let entries = c.args.told.entries.items in
    let all : take p h ≡ entries = ap (take p) c.new-reader.ensures.list ∙ take_all p entries (omega (arith, c.length-position.ensures.length, c.requires.stands.same_length)) in
    let stands = subst (λ (joins : List DeclaredJoin). HasRank joins j rank) (ap (λ (js : Joins). js.standing) c.joins-joins.ensures.joins ∙ c.requires.stands.joins.standing ∙ ap joins_of (sym all))
    (rank_of_place c.joins-joins.result.now.standing j 0 rank _ refl c.join-join.ensures c.rank-rank.ensures.exact) in
    let binds = ap (λ (k : Join). range_slots k.output range) (sym c.join.view_is) ∙ sym c.range_slots.ensures.exact ∙ c.in-Some.is in
    let fills = tree_can_fill c.need_can_fill.ensures (take p h) j rank range c.in-Some.slots (has_entered_taken p h c.new-reader.ensures.entered) stands (ap is_join (sym c.join.view_is) ∙ c.join.invariant) c.lo-low.ensures.is_range binds in
    let rows = c.into_rows-rows.result in
    let needs = whole_needs None (tree j c.in-Some.slots range (below (take p h) rank)) c.in_ok-found.found rows c.into_rows-rows.ensures c.in_ok-found.ensures.needs in
    subst (λ (k : Join). AllByRecursion (CanFill k) rows.needs) (sym c.in_ok-join.ensures) (subst (AllByRecursion (CanFill j)) (sym needs.0) fills)
