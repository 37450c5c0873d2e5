use Rattle.std.proofs.Common.{ap, arith}
use Rattle.door_queue.proofs.TallyLemmas.{takes}
use Rattle.door_queue.proofs.tallied_queue.TalliedQueue.take.Goals as goal

pub try_pop_as-requires-clause-rule : goal.try_pop_as-requires-clause-rule
try_pop_as-requires-clause-rule g c =
    takes _ _ (let is = ap (λ t. t.parts) c.loop.invariant.same_tally in let some = c.requires.parts in omega arith)
