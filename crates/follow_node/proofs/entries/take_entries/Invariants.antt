-- What the rest of the entries come to, they come to behind those that were taken.
use Rattle.std.proofs.Common.{◌≡◌, ◌+◌, drop, length}
use Rattle.follow_node.specs.Fed.{writes_of}
use Rattle.follow_node.proofs.TakingLemmas.{TakenSoFar}
use Rattle.follow_node.proofs.entries.take_entries.Given as goal

abbrev pub invariant-loop-entry : goal.invariant-loop-entry
invariant-loop-entry g l = record {
  next : (goal.iterator-loop-entry g).can_next l.entry-iterator;
  finite : (goal.iterator-loop-entry g).is_finite l.entry-iterator;
  so_far : TakenSoFar (g.R.Replica.writes l.fn.replica) (g.R.Replica.writes l.replica) (drop l.fn.taken (writes_of l.fn.entries.items))
      (drop l.skipped (writes_of l.entry-iterator.rest.items)) l.fn.taken l.taken;
  placed : l.taken + length l.entry-iterator.rest.items ≡ length l.fn.entries.items + l.skipped;
}
