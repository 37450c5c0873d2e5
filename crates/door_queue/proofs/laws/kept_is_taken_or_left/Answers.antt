use Rattle.door_queue.proofs.RunLemmas.{kept_is_taken_or_left}
use Rattle.door_queue.proofs.laws.kept_is_taken_or_left.Goals as goal

pub returns : goal.returns
returns g c = kept_is_taken_or_left _
