use Rattle.std.proofs.Common.{◌-◌, ◌≤◌, take, drop}
use Rattle.join_rows.proofs.packed.hand_span.Given as goal

-- the sink got the rows so far
abbrev pub invariant-loop-place : goal.invariant-loop-place
invariant-loop-place g l = record {
  rows : g.K.RowSink.got l.fn.sink l.sink (take (l.place - l.initial.place) (drop l.initial.place l.leaf));
  order : l.initial.place ≤ l.place;
  inside : l.place - l.initial.place ≤ l.place-end - l.initial.place;
}
