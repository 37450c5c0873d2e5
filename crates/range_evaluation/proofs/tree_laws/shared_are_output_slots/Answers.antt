use Rattle.range_evaluation.proofs.AskedLemmas.{shared_are_output_slots}
use Rattle.range_evaluation.proofs.tree_laws.shared_are_output_slots.Goals as goal

pub returns : goal.returns
returns c = shared_are_output_slots
