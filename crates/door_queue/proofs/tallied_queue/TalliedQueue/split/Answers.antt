use Rattle.std.proofs.Common.{ap, arith}
use Rattle.door_queue.proofs.TallyLemmas.{forks}
use Rattle.door_queue.proofs.tallied_queue.TalliedQueue.split.Goals as goal

pub another-pass-requires-clause-rule : goal.another-pass-requires-clause-rule
another-pass-requires-clause-rule g c =
    forks _ _ (let is = ap (λ t. t.parts) c.tally.view_is in let some = c.requires.parts in omega arith)
