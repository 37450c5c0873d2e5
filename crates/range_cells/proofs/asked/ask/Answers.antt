use Rattle.std.proofs.Common.{ap, ◌∙◌, arith}
use Rattle.base_shards.proofs.ReadingLemmas.{sees_still}
use Rattle.shared_reader.proofs.LentLemmas.{lent_reads_on-trans}
use Rattle.range_cells.specs.Asked.{pairs_asked}
use Rattle.range_cells.proofs.ChangingLemmas.{few_touched, reach_still, state_still}
use Rattle.range_cells.proofs.asked.ask.Goals as goal

pub read_asked-requires-clause-within : goal.read_asked-requires-clause-within
read_asked-requires-clause-within g c = sees_still c.args.stack.now.pass c.changed.new.self.pass c.args.p c.changed.ensures.reads_on.on c.requires.within

pub read_asked-requires-clause-above : goal.read_asked-requires-clause-above
read_asked-requires-clause-above g c =
    let above = c.requires.above in
    let order = c.requires.order in
    reach_still c.args.stack.now.pass c.changed.new.self.pass c.args.p c.changed.ensures.reads_on.on (omega (arith, above, order))

pub returns-in_err-pairs-clause-reads_on : goal.returns-in_err-pairs-clause-reads_on
returns-in_err-pairs-clause-reads_on g c = lent_reads_on-trans c.args.stack.now c.changed.new.self c.read_asked.new.stack c.changed.ensures.reads_on c.read_asked.ensures.reads_on

pub returns-clause-touched : goal.returns-clause-touched
returns-clause-touched g c =
    few_touched c.args.stack.now.pass.view c.args.q c.args.p c.args.range.now c.in_ok-told.told c.few_of-touched.result c.few_of-touched.ensures c.in_ok-told.ensures.exact

pub returns-clause-exact : goal.returns-clause-exact
returns-clause-exact g c =
    c.in_ok-pairs.ensures.exact
    ∙ ap (pairs_asked c.few_of-touched.result c.args.range.now) (state_still c.args.stack.now.pass c.changed.new.self.pass c.args.p c.changed.ensures.reads_on.on c.requires.within)

pub returns-clause-reads_on : goal.returns-clause-reads_on
returns-clause-reads_on g c = lent_reads_on-trans c.args.stack.now c.changed.new.self c.read_asked.new.stack c.changed.ensures.reads_on c.read_asked.ensures.reads_on
