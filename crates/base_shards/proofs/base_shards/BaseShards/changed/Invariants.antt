use Rattle.std.proofs.Common.{◌≡◌, ◌+◌, take}
use Rattle.base_shards.specs.Reading.{ReadsOn}
use Rattle.base_shards.specs.Changed.{changed_in_all, steps_of_all}
use Rattle.base_shards.proofs.base_shards.BaseShards.changed.Given as goal

-- the keys that changed in the ranges so far are found, and counted
abbrev pub invariant-loop-range : goal.invariant-loop-range
invariant-loop-range g l = record {
  reads_on : ReadsOn l.fn.pass l.pass;
  found : l.found.keys ≡ changed_in_all l.q l.p (take l.range-index l.ranges) l.fn.pass.view;
  cost : l.steps ≡ l.fn.steps + steps_of_all l.q l.p (take l.range-index l.ranges) l.fn.pass.view;
}
