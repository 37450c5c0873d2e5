use Rattle.std.proofs.Common.{◌≡◌, ◌≤◌}
use Rattle.write_history.specs.Marks.{before}
use Rattle.write_history.proofs.turn.lowest.Given as goal

abbrev pub invariant-loop-number : goal.invariant-loop-number
invariant-loop-number l = record {
  own : l.place.table_id ≡ l.fn.place.table_id;
  me : l.place.me ≡ (record l.fn.place.me.0 { passed = l.number; low = l.low }, l.fn.place.me.1);
  above : l.fn.place.me.0.lacks ≤ l.low;
  within : l.low ≤ before l.count;
}
