use Rattle.range_evaluation.proofs.ContributionLemmas.{needs_fix_contributions}
use Rattle.range_evaluation.proofs.contribution_laws.needs_fix_contributions.Goals as goal

pub returns : goal.returns
returns c = needs_fix_contributions
