use Rattle.semantics.proofs.OfRankLemmas.{overlaps_symmetric}
use Rattle.growing_history.proofs.pattern_laws.overlap_is_mutual.Goals as goal

pub returns : goal.returns
returns c = overlaps_symmetric
