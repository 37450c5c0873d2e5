use Rattle.range_evaluation.proofs.AskedLemmas.{followed_fits}
use Rattle.range_evaluation.proofs.tree_laws.followed_fits.Goals as goal

pub returns : goal.returns
returns c = followed_fits
