use Rattle.door_queue.proofs.TallyLemmas.{begins}
use Rattle.door_queue.proofs.tallied_queue.TalliedQueue.new.Goals as goal

pub ruled-requires-clause-rule : goal.ruled-requires-clause-rule
ruled-requires-clause-rule g c = begins
