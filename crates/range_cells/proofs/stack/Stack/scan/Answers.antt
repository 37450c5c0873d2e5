use Rattle.std.proofs.Common.{take, ap, ◌∙◌, subst}
use Rattle.std.specs.Bool.{OnTrue}
use Rattle.semantics.specs.Texts.{pairs_within}
use Rattle.semantics.specs.States.{state}
use Rattle.base_shards.proofs.ReadingLemmas.{sees_still}
use Rattle.shared_reader.proofs.LentLemmas.{lent_reads_on-trans}
use Rattle.range_cells.proofs.ChangingLemmas.{reach_still, state_still}
use Rattle.range_cells.proofs.stack.Stack.scan.Goals as goal

pub returns-then-handed-clause-exact : goal.returns-then-handed-clause-exact
returns-then-handed-clause-exact g c =
    subst (λ gave. OnTrue gave (g.K.RowSink.got c.args.sink.now c.try_hand.new.sink (pairs_within c.args.range.now (state (take c.args.p c.args.self.now.pass.view))))) c.if-handed.true c.in_ok-handed.ensures.handed

pub read-requires-clause-within : goal.read-requires-clause-within
read-requires-clause-within g c = sees_still c.args.self.now.pass c.try_hand.new.self.pass c.args.p c.try_hand.ensures.reads_on.on c.requires.within

pub read-requires-clause-above : goal.read-requires-clause-above
read-requires-clause-above g c = reach_still c.args.self.now.pass c.try_hand.new.self.pass c.args.p c.try_hand.ensures.reads_on.on c.requires.above

pub returns-in_err-pairs-clause-reads_on : goal.returns-in_err-pairs-clause-reads_on
returns-in_err-pairs-clause-reads_on g c = lent_reads_on-trans c.args.self.now c.try_hand.new.self c.read.new.self c.try_hand.ensures.reads_on c.read.ensures.reads_on

pub returns-clause-exact : goal.returns-clause-exact
returns-clause-exact g c =
    c.in_ok-pairs.ensures.exact ∙ ap (pairs_within c.args.range.now) (state_still c.args.self.now.pass c.try_hand.new.self.pass c.args.p c.try_hand.ensures.reads_on.on c.requires.within)

pub returns-clause-reads_on : goal.returns-clause-reads_on
returns-clause-reads_on g c = lent_reads_on-trans c.args.self.now c.try_hand.new.self c.read.new.self c.try_hand.ensures.reads_on c.read.ensures.reads_on
