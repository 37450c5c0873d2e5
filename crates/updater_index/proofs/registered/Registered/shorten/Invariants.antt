use Rattle.std.proofs.Common.{◌≡◌, ◌≤◌, length, take, set}
use Rattle.updater_index.specs.Registered.{ranges_of}
use Rattle.updater_index.specs.Indexed.{AreIndexed}
use Rattle.updater_index.proofs.registered.Registered.shorten.Given as goal

abbrev pub invariant-loop-count : goal.invariant-loop-count
invariant-loop-count l = record {
  held : l.self-inside.by_id.items ≡ set l.fn.self l.id (take l.count (ranges_of l.id l.fn.self));
  indexed : AreIndexed l.self-inside.by_id.items l.self-inside.forks;
  long : l.count ≤ length (ranges_of l.id l.fn.self);
  enough : l.keep ≤ l.count;
}

abbrev pub decreases-loop-count : goal.decreases-loop-count
decreases-loop-count l = l.count
