use Rattle.growing_history.proofs.FixedPointLemmas.{fixed_point_is_state_lem}
use Rattle.growing_history.proofs.fixed_point_laws.fixed_point_is_state.Goals as goal

pub returns : goal.returns
returns c = fixed_point_is_state_lem
