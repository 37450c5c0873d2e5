use Rattle.semantics.proofs.StateLemmas.{ascending-state}
use Rattle.semantics.proofs.state_laws.state_is_sorted.Goals as goal

pub returns : goal.returns
returns c = ascending-state
