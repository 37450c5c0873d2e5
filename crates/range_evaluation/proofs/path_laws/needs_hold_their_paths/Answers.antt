use Rattle.range_evaluation.proofs.PathLemmas.{needs_hold_their_paths}
use Rattle.range_evaluation.proofs.path_laws.needs_hold_their_paths.Goals as goal

pub returns : goal.returns
returns c = needs_hold_their_paths
