use Rattle.std.proofs.Common.{◌++◌, take, ap, ◌∙◌, arith}
use Rattle.std.proofs.lemmas.List.{take_all}
use Rattle.semantics.specs.Texts.{pairs_within}
use Rattle.semantics.specs.States.{state}
use Rattle.base_shards.proofs.ReadingLemmas.{sees_still}
use Rattle.shared_reader.proofs.LentLemmas.{lent_reads_on-refl, lent_reads_on-trans}
use Rattle.range_cells.specs.Asked.{pairs_at}
use Rattle.range_cells.proofs.ChangingLemmas.{keys_next, reach_still, state_still}
use Rattle.range_cells.proofs.asked.read_keys.Goals as goal

pub loop-key-init : goal.loop-key-init
loop-key-init g c = record { on = lent_reads_on-refl c.args.stack.now; counted = omega arith; so_far = c.new-pairs.ensures.items }

pub read-requires-clause-within : goal.read-requires-clause-within
read-requires-clause-within g c = sees_still c.args.stack.now.pass c.loop-key.stack.pass c.args.p c.loop-key.invariant.on.on c.requires.within

pub read-requires-clause-above : goal.read-requires-clause-above
read-requires-clause-above g c = reach_still c.args.stack.now.pass c.loop-key.stack.pass c.args.p c.loop-key.invariant.on.on c.requires.above

pub returns-in_err-range-clause-reads_on : goal.returns-in_err-range-clause-reads_on
returns-in_err-range-clause-reads_on g c = c.loop-key.invariant.on

pub returns-in_err-found-clause-reads_on : goal.returns-in_err-found-clause-reads_on
returns-in_err-found-clause-reads_on g c = lent_reads_on-trans c.args.stack.now c.loop-key.stack c.read.new.self c.loop-key.invariant.on c.read.ensures.reads_on

pub returns-in_err-append-clause-reads_on : goal.returns-in_err-append-clause-reads_on
returns-in_err-append-clause-reads_on g c = lent_reads_on-trans c.args.stack.now c.loop-key.stack c.read.new.self c.loop-key.invariant.on c.read.ensures.reads_on

pub loop-key-preserved : goal.loop-key-preserved
loop-key-preserved g c =
    let before = c.loop-key.invariant in
    let keys = c.args.keys.now in
    record {
      on = lent_reads_on-trans c.args.stack.now c.loop-key.stack c.read.new.self before.on c.read.ensures.reads_on;
      counted = let had = before.counted in let more = c.read.ensures.counted in omega (arith, had, more);
      so_far =
          c.in_ok-append.ensures.items
          ∙ (λ i. before.so_far i
          ++ (c.in_ok-found.ensures.exact ∙ (λ j. pairs_within (c.in_ok-range.ensures j) (state_still c.args.stack.now.pass c.loop-key.stack.pass c.args.p before.on.on c.requires.within j))) i)
          ∙ keys_next keys c.loop-key.key-index c.key-item.result (state (take c.args.p c.args.stack.now.pass.view)) c.loop-key-test.true c.key-item.is;
    }

pub returns-clause-exact : goal.returns-clause-exact
returns-clause-exact g c =
    c.loop-key.invariant.so_far
    ∙ ap (λ ks. pairs_at ks (state (take c.args.p c.args.stack.now.pass.view))) (take_all c.loop-key.key-index c.args.keys.now (omega arith))

pub returns-clause-reads_on : goal.returns-clause-reads_on
returns-clause-reads_on g c = c.loop-key.invariant.on
