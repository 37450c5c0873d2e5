use Rattle.std.proofs.Common.{arith}
use Rattle.history_trials.proofs.ShardTrialLemmas.{may_on, pinned_on, reaches}
use Rattle.history_trials.proofs.shards.changed.Goals as goal

pub changed-found-requires-clause-pinned : goal.changed-found-requires-clause-pinned
changed-found-requires-clause-pinned g c = reaches g.N.Naming.history c.args.pass.now c.args.known c.args.between.0 c.requires.pinned (omega arith)

pub returns-clause-pinned : goal.returns-clause-pinned
returns-clause-pinned g c = pinned_on g.N.Naming.history c.args.pass.now c.changed-found.new.pass c.args.known c.changed-found.ensures.reads_on c.requires.pinned

pub returns-clause-may : goal.returns-clause-may
returns-clause-may g c = may_on g.N.Naming.history c.args.pass.now c.changed-found.new.pass c.changed-found.ensures.reads_on
