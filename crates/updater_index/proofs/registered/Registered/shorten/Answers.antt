use Rattle.std.proofs.Common.{arith}
use Rattle.updater_index.proofs.IndexLemmas.{one_fewer}
use Rattle.updater_index.proofs.registered.Registered.shorten.Goals as goal

pub loop-count-preserved : goal.loop-count-preserved
loop-count-preserved c = record {
  held = one_fewer c.args.self.now c.loop-count.self-inside.by_id.items c.drop_last.new.by_id.items c.args.id c.loop-count.count c.requires.known c.loop-count.invariant.long c.loop-count.invariant.held c.drop_last.ensures.held;
  indexed = c.drop_last.ensures.indexed;
  long = omega arith;
  enough = omega arith;
}
