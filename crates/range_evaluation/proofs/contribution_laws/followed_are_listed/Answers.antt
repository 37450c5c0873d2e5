use Rattle.range_evaluation.proofs.ContributionLemmas.{followed_are_listed}
use Rattle.range_evaluation.proofs.contribution_laws.followed_are_listed.Goals as goal

pub returns : goal.returns
returns c = followed_are_listed
