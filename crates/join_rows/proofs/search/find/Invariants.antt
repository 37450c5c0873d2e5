use Rattle.std.proofs.Common.{◌-◌, ◌≤◌, length, take, drop}
use Rattle.join_rows.specs.Laid.{rows_of}
use Rattle.join_rows.specs.Found.{AllBelow, AllAbove}
use Rattle.join_rows.proofs.search.find.Given as goal

abbrev pub invariant-loop-first : goal.invariant-loop-first
invariant-loop-first l = record {
  order : l.first ≤ l.end;
  within : l.end ≤ length l.entries;
  below : AllBelow l.key (take l.first (rows_of l.bytes l.entries));
  above : AllAbove l.key (drop l.end (rows_of l.bytes l.entries));
}

abbrev pub decreases-loop-first : goal.decreases-loop-first
decreases-loop-first l = l.end - l.first
