use Rattle.range_evaluation.proofs.FollowedLemmas.{followed_is_out}
use Rattle.range_evaluation.proofs.tree_laws.followed_is_out.Goals as goal

pub returns : goal.returns
returns c = followed_is_out
