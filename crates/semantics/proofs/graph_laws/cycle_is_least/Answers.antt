use Rattle.semantics.proofs.GraphLeast.{cycle_is_least_lem}
use Rattle.semantics.proofs.graph_laws.cycle_is_least.Goals as goal

pub returns : goal.returns
returns c = cycle_is_least_lem
