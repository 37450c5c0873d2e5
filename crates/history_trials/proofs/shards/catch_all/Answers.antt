use Rattle.history_trials.proofs.ShardTrialLemmas.{seen_on, may_on}
use Rattle.history_trials.proofs.shards.catch_all.Goals as goal

pub returns-in_err-catch_up : goal.returns-in_err-catch_up
returns-in_err-catch_up g c = λ may. may_on g.N.Naming.history c.loop-number.pass c.catch_up.new.pass c.catch_up.ensures (c.loop-number.invariant.may may)

pub loop-number-preserved : goal.loop-number-preserved
loop-number-preserved g c = record {
  seen = seen_on g.N.Naming.history c.loop-number.pass c.catch_up.new.pass c.args.p c.catch_up.ensures c.loop-number.invariant.seen;
  may = λ may. may_on g.N.Naming.history c.loop-number.pass c.catch_up.new.pass c.catch_up.ensures (c.loop-number.invariant.may may);
}
