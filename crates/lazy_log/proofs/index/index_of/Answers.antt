use Rattle.std.proofs.Common.{take}
use Rattle.lazy_log.specs.Held.{slots_of}
use Rattle.lazy_log.proofs.IndexLemmas.{noted_all, noted_next}
use Rattle.lazy_log.proofs.index.index_of.Goals as goal

pub loop-one-init : goal.loop-one-init
loop-one-init c = c.new.ensures c.args.output.now

pub loop-one-preserved : goal.loop-one-preserved
loop-one-preserved c =
    noted_next c.args.output.now c.args.noted.now c.loop-one.one-index c.one-item.result c.in_ok-index.index c.loop-one-test.true c.one-item.is
    (c.in_ok-index.ensures (slots_of (take c.loop-one.one-index c.args.noted.now)) c.loop-one.invariant)

pub returns : goal.returns
returns c = noted_all c.args.output.now c.args.noted.now c.loop-one.one-index c.loop-one.index c.loop-one-test.false c.loop-one.invariant
