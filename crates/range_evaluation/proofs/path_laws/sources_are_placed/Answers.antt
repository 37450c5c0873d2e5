use Rattle.range_evaluation.proofs.PlacedLemmas.{sources_are_placed}
use Rattle.range_evaluation.proofs.path_laws.sources_are_placed.Goals as goal

pub returns : goal.returns
returns c = sources_are_placed
