use Rattle.growing_history.proofs.FixedPointLemmas.{state_is_fixed_point_lem}
use Rattle.growing_history.proofs.fixed_point_laws.state_is_fixed_point.Goals as goal

pub returns : goal.returns
returns c = state_is_fixed_point_lem
