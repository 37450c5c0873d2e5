use Rattle.std.proofs.Common.{ap, arith}
use Rattle.door_queue.proofs.TallyLemmas.{learns, takes}
use Rattle.door_queue.proofs.tallied_queue.TalliedQueue.take_left.Goals as goal

pub pop_as-requires-clause-rule : goal.pop_as-requires-clause-rule
pop_as-requires-clause-rule g c =
    let is = ap (λ t. t.parts) c.tally.view_is in
    let whole = c.requires.whole in
    (takes _ _ (omega arith), learns _ _ (omega arith))
