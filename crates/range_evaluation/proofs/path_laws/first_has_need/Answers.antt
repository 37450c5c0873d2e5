use Rattle.range_evaluation.proofs.GoesOnLemmas.{first_has_need}
use Rattle.range_evaluation.proofs.path_laws.first_has_need.Goals as goal

pub returns : goal.returns
returns c = first_has_need
