use Rattle.std.proofs.Common.{◌≡◌, take, set}
use Rattle.updater_index.specs.Registered.{ranges_of, with_ranges}
use Rattle.updater_index.proofs.registered.Registered.add_all.Given as goal

abbrev pub invariant-loop-range : goal.invariant-loop-range
invariant-loop-range l = l.self ≡ set l.fn.self l.id (with_ranges (ranges_of l.id l.fn.self) (take l.range-index l.ranges))
