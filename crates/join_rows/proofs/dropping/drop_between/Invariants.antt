use Rattle.std.proofs.Common.{◌≤◌, is_some}
use Rattle.semantics.specs.Patterns.{bind}
use Rattle.join_rows.specs.Leaves.{AreCounted}
use Rattle.join_rows.proofs.DropLemmas.{LeavesThinned}
use Rattle.join_rows.proofs.dropping.drop_between.Given as goal

abbrev pub invariant-loop-place : goal.invariant-loop-place
invariant-loop-place l = record {
  thinned : LeavesThinned (λ key. is_some (bind l.pattern key l.slots)) l.fn.leaves.items l.leaves.items l.place;
  counted : AreCounted l.leaves.items l.count;
  order : l.span.from ≤ l.place;
}

abbrev pub decreases-loop-place : goal.decreases-loop-place
decreases-loop-place l = l.place
