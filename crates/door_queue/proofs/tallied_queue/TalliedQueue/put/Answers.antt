use Rattle.std.proofs.Common.{ap, arith}
use Rattle.door_queue.proofs.TallyLemmas.{puts}
use Rattle.door_queue.proofs.tallied_queue.TalliedQueue.put.Goals as goal

pub try_push_as-requires-clause-rule : goal.try_push_as-requires-clause-rule
try_push_as-requires-clause-rule g c =
    puts _ _ _ _ (let is = ap (λ t. t.parts) c.loop.invariant.same_tally in let some = c.requires.parts in omega arith)
