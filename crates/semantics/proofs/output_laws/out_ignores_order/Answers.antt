use Rattle.semantics.proofs.CopyLemmas.{out_ignores_order}
use Rattle.semantics.proofs.output_laws.out_ignores_order.Goals as goal

pub returns : goal.returns
returns c = out_ignores_order
