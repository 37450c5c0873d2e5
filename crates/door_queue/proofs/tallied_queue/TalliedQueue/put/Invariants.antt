-- nothing was put so far
use Rattle.std.proofs.Common.{◌≡◌, []}
use Rattle.door_queue.specs.Tallies.{tallied}
use Rattle.door_queue.proofs.tallied_queue.TalliedQueue.put.Given as goal

abbrev pub invariant-loop : goal.invariant-loop
invariant-loop g l = record {
  goes_on : ((goal.iterator-loop g).can_next l.iterator') × ((goal.iterator-loop g).is_finite l.iterator');
  same_item : l.item ≡ l.fn.item;
  same_tally : tallied l.tally-inside.pass.table_id l.tally-inside.pass.me.0.client ≡ l.fn.tally;
  none_out : l.tally-inside.pass.me.1 ≡ [];
}
