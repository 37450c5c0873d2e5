use Rattle.semantics.proofs.GatherLemmas.{ascending-out}
use Rattle.growing_history.proofs.output_laws.out_is_sorted.Goals as goal

pub returns : goal.returns
returns c = ascending-out
