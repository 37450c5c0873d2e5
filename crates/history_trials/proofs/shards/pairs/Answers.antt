use Rattle.std.proofs.Common.{arith}
use Rattle.history_trials.proofs.ShardTrialLemmas.{may_on, pinned_on, reaches}
use Rattle.history_trials.proofs.shards.pairs.Goals as goal

pub pairs_at-found-requires-clause-pinned : goal.pairs_at-found-requires-clause-pinned
pairs_at-found-requires-clause-pinned g c = reaches g.N.Naming.history c.args.pass.now c.args.known c.args.p c.requires.pinned (omega arith)

pub returns-clause-pinned : goal.returns-clause-pinned
returns-clause-pinned g c = pinned_on g.N.Naming.history c.args.pass.now c.pairs_at-found.new.pass c.args.known c.pairs_at-found.ensures.reads_on c.requires.pinned

pub returns-clause-may : goal.returns-clause-may
returns-clause-may g c = may_on g.N.Naming.history c.args.pass.now c.pairs_at-found.new.pass c.pairs_at-found.ensures.reads_on
