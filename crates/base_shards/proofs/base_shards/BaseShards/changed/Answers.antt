use Rattle.std.proofs.Common.{◌≡◌, ◌∷◌, ◌++◌, [], length, take, flat_map, sym, ap, ◌∙◌, arith}
use Rattle.std.proofs.lemmas.Result.{IfOk-weaker}
use Rattle.growing_history.specs.Changes.{in_order, changed_keys}
use Rattle.base_shards.specs.Changed.{changed_in_all, steps_of_all}
use Rattle.base_shards.proofs.ChangedLemmas.{one_range_alone, only_one, counted_keys, steps_of_one, ranges_more, steps_more}
use Rattle.base_shards.proofs.ListLemmas.{changed_prefix}
use Rattle.base_shards.proofs.ReadingLemmas.{reads_on-trans, reaches_still}
use Rattle.base_shards.proofs.base_shards.BaseShards.changed.Goals as goal

pub returns-in-len1-clause-exact : goal.returns-in-len1-clause-exact
returns-in-len1-clause-exact g c =
    let one : c.args.ranges.now ≡ c.range-item.result ∷ [] = only_one c.args.ranges.now c.range-item.result c.in-len1.len_at_least c.in-len1.len_below c.range-item.is in
    IfOk-weaker c.changed_within.result _ _ (λ keys exact.
    exact ∙ sym (one_range_alone c.args.q c.args.p c.range-item.result c.args.pass.now.view)
    ∙ ap (λ rs. changed_in_all c.args.q c.args.p rs c.args.pass.now.view) (sym one)) c.changed_within.ensures.exact

pub returns-in-len1-clause-cost : goal.returns-in-len1-clause-cost
returns-in-len1-clause-cost g c =
    let one : c.args.ranges.now ≡ c.range-item.result ∷ [] = only_one c.args.ranges.now c.range-item.result c.in-len1.len_at_least c.in-len1.len_below c.range-item.is in
    let total = ap (λ rs. steps_of_all c.args.q c.args.p rs c.args.pass.now.view) one ∙ steps_of_one c.args.q c.args.p c.range-item.result c.args.pass.now.view in
    counted_keys c.changed_within.result (λ v. v.items) (changed_keys c.args.q c.args.p c.range-item.result c.args.pass.now.view) c.args.steps.now c.changed_within.new.steps
    (steps_of_all c.args.q c.args.p c.args.ranges.now c.args.pass.now.view) total c.changed_within.ensures.exact c.changed_within.ensures.cost

pub changed_within-requires-in-loop-range-clause-pinned : goal.changed_within-requires-in-loop-range-clause-pinned
changed_within-requires-in-loop-range-clause-pinned g c = reaches_still c.args.pass.now c.loop-range.pass c.args.q c.loop-range.invariant.reads_on c.requires.pinned

pub returns-in_err-keys-clause-reads_on : goal.returns-in_err-keys-clause-reads_on
returns-in_err-keys-clause-reads_on g c =
    reads_on-trans c.args.pass.now c.loop-range.pass c.changed_within-in-loop-range.new.pass c.loop-range.invariant.reads_on c.changed_within-in-loop-range.ensures.reads_on

pub loop-range-preserved : goal.loop-range-preserved
loop-range-preserved g c =
    let before = c.args.pass.now.view in
    let range = c.range-item-in-loop-range.result in
    let same = changed_prefix c.args.q c.args.p range before c.loop-range.pass.view c.requires.order c.requires.within c.loop-range.invariant.reads_on.begins in
    let keys : c.in_ok-keys.keys.items ≡ changed_keys c.args.q c.args.p range before = c.in_ok-keys.ensures.exact ∙ same in
    let more = ranges_more c.args.q c.args.p before c.args.ranges.now c.loop-range.range-index range c.loop-range-test.true c.range-item-in-loop-range.is in
    let steps = steps_more c.args.q c.args.p before c.args.ranges.now c.loop-range.range-index range c.loop-range-test.true c.range-item-in-loop-range.is in
    let count = ap length keys in
    record {
      reads_on = reads_on-trans c.args.pass.now c.loop-range.pass c.changed_within-in-loop-range.new.pass c.loop-range.invariant.reads_on c.changed_within-in-loop-range.ensures.reads_on;
      found = c.in_ok-add_keys.ensures (flat_map (λ r. changed_keys c.args.q c.args.p r before) (take c.loop-range.range-index c.args.ranges.now)) c.loop-range.invariant.found
          ∙ ap in_order (ap (λ ks. flat_map (λ r. changed_keys c.args.q c.args.p r before) (take c.loop-range.range-index c.args.ranges.now) ++ ks) keys ∙ sym more);
      cost = omega (arith, c.in_ok-keys.ensures.cost, c.loop-range.invariant.cost, steps, count);
    }
