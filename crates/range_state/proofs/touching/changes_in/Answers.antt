use Rattle.std.proofs.Common.{◌≡◌, ◌-◌, ◌≤◌, List, length, take, drop, true, false, sym, ap, ◌∙◌, subst, rules}
use Rattle.std.specs.List.Sorted.{IsStrictlySortedBy, IsPartitionPoint}
use Rattle.std.proofs.lemmas.List.{take_rest}
use Rattle.std.proofs.lemmas.List.Sorted.{IsPartitionPoint-from_clause}
use Rattle.semantics.specs.Texts.{text_cmp}
use Rattle.key_ranges.specs.Ranges.{is_below}
use Rattle.growing_history.specs.StateChanges.{Change}
use Rattle.join_eval.specs.Answers.{change_keys}
use Rattle.range_state.proofs.OrderLemmas.{parted_below, sorted_drop, changes_between, keys_within}
use Rattle.range_state.proofs.touching.changes_in.Goals as goal

pub returns-clause-exact : goal.returns-clause-exact
returns-clause-exact c =
    let changes : List Change = c.args.reported.now in
    let range = c.args.range.now in
    let first = c.partition_point-first.result in
    let count = c.partition_point-count.result in
    let reached : List Change = take (length changes - first) (drop first changes) in
    let rest : reached ≡ drop first changes = take_rest changes first in
    let low = IsPartitionPoint-from_clause (λ (change : Change). is_below change.key range.low) changes first c.partition_point-first.ensures.partitioned (parted_below range.low changes c.requires) (λ a r q k. search rules) in
    let high = IsPartitionPoint-from_clause (λ (change : Change). is_below change.key range.high) reached count c.partition_point-count.ensures.partitioned
    (parted_below range.high reached (subst (λ (cs : List Change). IsStrictlySortedBy text_cmp (change_keys cs)) (sym rest) (sorted_drop first changes c.requires))) (λ a r q k. search rules) in
    ap (take count) rest
    ∙ changes_between range changes first count c.partition_point-first.ensures.bound (subst (λ (l : List Change). count ≤ length l) rest c.partition_point-count.ensures.bound) low
    (subst (λ (l : List Change). IsPartitionPoint (λ (change : Change). is_below change.key range.high ≡ true) (λ (change : Change). is_below change.key range.high ≡ false) l count) rest high)

pub returns-clause-keys : goal.returns-clause-keys
returns-clause-keys c = ap change_keys (returns-clause-exact c) ∙ keys_within c.args.range.now c.args.reported.now
