use Rattle.std.proofs.Common.{◌≡◌, ◌+◌, ◌-◌, ◌≤◌, ◌++◌, drop, length}
use Rattle.range_cells.specs.Comparing.{changes_of}
use Rattle.range_cells.proofs.comparing.compare.Given as goal

-- with the changes between what is left of both, the changes so far are those between both
abbrev pub invariant-loop-i : goal.invariant-loop-i
invariant-loop-i l = record {
  first_in : l.i ≤ length l.before;
  other_in : l.k ≤ length l.after;
  whole : l.changes.items ++ changes_of (drop l.i l.before) (drop l.k l.after) ≡ changes_of l.before l.after;
}

abbrev pub decreases-loop-i : goal.decreases-loop-i
decreases-loop-i l = (length l.before - l.i) + (length l.after - l.k)
