use Rattle.growing_history.proofs.KeyOrderLemmas.{result_ignores_order_lem}
use Rattle.growing_history.proofs.output_laws.result_ignores_order.Goals as goal

pub returns : goal.returns
returns c = result_ignores_order_lem
