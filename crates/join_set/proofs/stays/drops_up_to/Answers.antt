use Rattle.std.proofs.Common.{◌∙◌}
use Rattle.std.proofs.lemmas.Result.{IfOk-weaker}
use Rattle.join_set.proofs.stays.drops_up_to.Goals as goal

pub returns : goal.returns
returns c = IfOk-weaker c.drops_of.result _ _ (λ drops tell table. tell table ∙ c.in_ok-ends.ensures table) c.drops_of.ensures
