use Rattle.range_evaluation.proofs.ContributionLemmas.{shared_give_contributions}
use Rattle.range_evaluation.proofs.contribution_laws.shared_give_contributions.Goals as goal

pub returns : goal.returns
returns c = shared_give_contributions
