use Rattle.growing_history.proofs.KeyOrderLemmas.{out_ignores_any_order_lem}
use Rattle.growing_history.proofs.output_laws.out_ignores_any_order.Goals as goal

pub returns : goal.returns
returns c = out_ignores_any_order_lem
