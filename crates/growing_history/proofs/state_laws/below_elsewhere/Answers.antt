use Rattle.semantics.proofs.StateLemmas.{value_at-below_elsewhere}
use Rattle.growing_history.proofs.state_laws.below_elsewhere.Goals as goal

pub returns : goal.returns
returns c = value_at-below_elsewhere
