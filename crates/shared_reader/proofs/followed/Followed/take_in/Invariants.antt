use Rattle.std.proofs.Common.{take}
use Rattle.std.specs.List.{AllByRecursion}
use Rattle.shared_reader.specs.Following.{HaveWhole}
use Rattle.shared_reader.proofs.followed.Followed.take_in.Given as goal

-- each range so far lies in one of those that are followed
abbrev pub invariant-loop-range : goal.invariant-loop-range
invariant-loop-range l = AllByRecursion (HaveWhole l.self) (take l.range-index l.ranges)
