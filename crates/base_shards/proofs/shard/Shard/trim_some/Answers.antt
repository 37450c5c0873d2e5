use Rattle.std.proofs.Common.{◌≡◌, ◌+◌, ◌<◌, ◌≤◌, min, sym, ap, ◌∙◌, arith}
use Rattle.base_shards.specs.Shards.{ShardView}
use Rattle.base_shards.proofs.ShardLemmas.{keeps_trimmed}
use Rattle.base_shards.proofs.shard.Shard.trim_some.Goals as goal

pub invariant_of-self : goal.invariant_of-self
invariant_of-self g c =
    let inside = c.self.inside in
    let seen = ap (λ (s : ShardView). s.pass.floor) c.self.view_is in
    let higher = c.meet.ensures.goes_on.higher in
    let same = c.meet.ensures.floor in
    let under = c.requires.floor in
    let from = c.start-start.ensures.start in
    let to = c.min-to.ensures in (
      c.self.invariant.0 ∙ sym c.trim.ensures.shard,
      keeps_trimmed g.N.Naming.history inside.base c.trim.new.self inside.pass c.min-to.result c.self.invariant.1 (omega arith) (omega arith) c.trim.ensures.start c.trim.ensures.position c.trim.ensures.shards c.trim.ensures.stands,
    )
