use Rattle.semantics.proofs.StateLemmas.{value_at-state_elsewhere}
use Rattle.semantics.proofs.state_laws.state_elsewhere.Goals as goal

pub returns : goal.returns
returns c = value_at-state_elsewhere
