use Rattle.std.proofs.Common.{ap, arith}
use Rattle.door_queue.proofs.TallyLemmas.{merges}
use Rattle.door_queue.proofs.tallied_queue.TalliedQueue.join.Goals as goal

pub absorb-requires-clause-rule : goal.absorb-requires-clause-rule
absorb-requires-clause-rule g c =
    merges _ _ _ _ (let is = ap (λ t. t.parts) c.tally.view_is in let some = c.requires.parts in omega arith)
