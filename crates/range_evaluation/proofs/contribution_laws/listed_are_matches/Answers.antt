use Rattle.range_evaluation.proofs.ContributionLemmas.{listed_are_matches}
use Rattle.range_evaluation.proofs.contribution_laws.listed_are_matches.Goals as goal

pub returns : goal.returns
returns c = listed_are_matches
