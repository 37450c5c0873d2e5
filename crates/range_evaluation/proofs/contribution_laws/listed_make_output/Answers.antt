use Rattle.range_evaluation.proofs.ContributionLemmas.{listed_make_output}
use Rattle.range_evaluation.proofs.contribution_laws.listed_make_output.Goals as goal

pub returns : goal.returns
returns c = listed_make_output
