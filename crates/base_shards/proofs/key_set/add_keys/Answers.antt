use Rattle.std.proofs.Common.{◌∙◌}
use Rattle.base_shards.proofs.OrderLemmas.{in_order_more}
use Rattle.base_shards.proofs.key_set.add_keys.Goals as goal

pub loop-key-preserved : goal.loop-key-preserved
loop-key-preserved c = λ before is. c.in_ok-insert.ensures.keys ∙ in_order_more before c.loop-key.yielded c.in-Some.key c.loop-key.found.keys (c.loop-key.invariant before is)
