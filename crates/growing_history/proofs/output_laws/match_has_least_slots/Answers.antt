use Rattle.growing_history.proofs.FitLemmas.{match_has_least_slots_lem}
use Rattle.growing_history.proofs.output_laws.match_has_least_slots.Goals as goal

pub returns : goal.returns
returns c = match_has_least_slots_lem
