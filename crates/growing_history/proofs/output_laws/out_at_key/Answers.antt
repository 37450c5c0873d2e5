use Rattle.semantics.proofs.GatherLemmas.{value_at-out}
use Rattle.growing_history.proofs.output_laws.out_at_key.Goals as goal

pub returns : goal.returns
returns c = value_at-out
