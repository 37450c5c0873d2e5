use Rattle.std.proofs.Common.{◌≡◌, ◌-◌, ◌≤◌, length}
use Rattle.growing_history.specs.Entered.{HasEntered}
use Rattle.growing_history.specs.Changes.{entries_between}
use Rattle.base_shards.specs.Marks.{marked_by}
use Rattle.base_shards.proofs.shard.Shard.take_all.Given as goal

-- the pass has seen entries up to the position, the part comes nearer to it, and the ids are marked that the entries so far mark
abbrev pub invariant-loop-self : goal.invariant-loop-self
invariant-loop-self g l = record {
  entered : HasEntered l.self.pass.view;
  within : l.p ≤ length l.self.pass.view;
  pass : l.self.pass ≡ l.fn.self.pass;
  number : l.self.base.shard ≡ l.fn.self.base.shard;
  start : l.self.base.start ≡ l.fn.self.base.start;
  kept : l.fn.self.base.position ≤ l.self.base.position;
  marked : l.self.index ≡ marked_by l.fn.self.base.shard (entries_between l.fn.self.base.position l.self.base.position l.fn.self.pass.view) l.fn.self.index;
}

abbrev pub decreases-loop-self : goal.decreases-loop-self
decreases-loop-self g l = l.p - l.self.base.position
