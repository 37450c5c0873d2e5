use Rattle.range_evaluation.proofs.PathLemmas.{needs_came_by_paths}
use Rattle.range_evaluation.proofs.path_laws.needs_came_by_paths.Goals as goal

pub returns : goal.returns
returns c = needs_came_by_paths
