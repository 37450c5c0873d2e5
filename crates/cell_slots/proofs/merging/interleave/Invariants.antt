use Rattle.std.proofs.Common.{◌≡◌, ◌+◌, ◌-◌, ◌≤◌, ◌++◌, drop, length}
use Rattle.semantics.specs.States.{merged}
use Rattle.cell_slots.proofs.merging.interleave.Given as goal

-- with what is left of both, merged, the pairs so far are the merge of both
abbrev pub invariant-loop-i : goal.invariant-loop-i
invariant-loop-i l = record {
  first_in : l.i ≤ length l.first;
  other_in : l.k ≤ length l.other;
  whole : l.all.items ++ merged (drop l.i l.first) (drop l.k l.other) ≡ merged l.first l.other;
}

abbrev pub decreases-loop-i : goal.decreases-loop-i
decreases-loop-i l = (length l.first - l.i) + (length l.other - l.k)
