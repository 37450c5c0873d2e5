use Rattle.range_evaluation.proofs.PathLemmas.{needs_hold_next}
use Rattle.range_evaluation.proofs.path_laws.needs_hold_next.Goals as goal

pub returns : goal.returns
returns c = needs_hold_next
