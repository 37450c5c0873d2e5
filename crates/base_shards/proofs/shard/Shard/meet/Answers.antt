use Rattle.std.proofs.Common.{◌≡◌, ◌≤◌, ℕ, subst, sym, arith}
use Rattle.base_shards.proofs.ShardLemmas.{keeps_longer, floor_below}
use Rattle.base_shards.proofs.shard.Shard.meet.Goals as goal

pub returns-clause-trimmed : goal.returns-clause-trimmed
returns-clause-trimmed g c =
    let keeps = keeps_longer g.N.Naming.history c.self.inside.base c.self.inside.pass c.meet.new.a c.self.invariant.1 c.meet.ensures.first in
    omega (arith, keeps.trimmed, c.meet.ensures.floor)

pub returns-clause-below : goal.returns-clause-below
returns-clause-below g c =
    let keeps = keeps_longer g.N.Naming.history c.self.inside.base c.self.inside.pass c.meet.new.a c.self.invariant.1 c.meet.ensures.first in
    omega (arith, floor_below g.N.Naming.history c.self.inside.base c.meet.new.a keeps c.meet.ensures.first.low, c.meet.ensures.floor)
