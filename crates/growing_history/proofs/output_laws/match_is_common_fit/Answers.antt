use Rattle.growing_history.proofs.FitLemmas.{match_is_common_fit_lem}
use Rattle.growing_history.proofs.output_laws.match_is_common_fit.Goals as goal

pub returns : goal.returns
returns c = match_is_common_fit_lem
