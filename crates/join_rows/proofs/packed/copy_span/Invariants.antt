use Rattle.std.proofs.Common.{◌≡◌, ◌-◌, ◌≤◌, ◌++◌, take, drop}
use Rattle.join_rows.proofs.packed.copy_span.Given as goal

abbrev pub invariant-loop-place : goal.invariant-loop-place
invariant-loop-place l = record {
  pairs : l.pairs.items ≡ l.fn.pairs.items ++ take (l.place - l.initial.place) (drop l.initial.place l.leaf);
  order : l.initial.place ≤ l.place;
  inside : l.place - l.initial.place ≤ l.place-end - l.initial.place;
}
