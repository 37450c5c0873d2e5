use Rattle.semantics.proofs.StateLemmas.{ascending-below}
use Rattle.growing_history.proofs.state_laws.below_is_sorted.Goals as goal

pub returns : goal.returns
returns c = ascending-below
