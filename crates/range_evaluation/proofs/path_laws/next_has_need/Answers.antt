use Rattle.range_evaluation.proofs.GoesOnLemmas.{next_has_need}
use Rattle.range_evaluation.proofs.path_laws.next_has_need.Goals as goal

pub returns : goal.returns
returns c = next_has_need
