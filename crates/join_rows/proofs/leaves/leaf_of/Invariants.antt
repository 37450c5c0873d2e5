use Rattle.std.proofs.Common.{◌-◌, ◌<◌, ◌≤◌, length, take, drop}
use Rattle.join_rows.specs.Found.{AllBelow, AllAbove}
use Rattle.join_rows.specs.Leaves.{all_rows}
use Rattle.join_rows.proofs.leaves.leaf_of.Given as goal

abbrev pub invariant-loop-low : goal.invariant-loop-low
invariant-loop-low l = record {
  order : l.low < l.end;
  within : l.end ≤ length l.leaves;
  below : AllBelow l.key (all_rows (take l.low l.leaves));
  above : AllAbove l.key (all_rows (drop l.end l.leaves));
}

abbrev pub decreases-loop-low : goal.decreases-loop-low
decreases-loop-low l = l.end - l.low
