use Rattle.std.proofs.Common.{◌∙◌}
use Rattle.std.proofs.lemmas.Result.{IfOk-weaker}
use Rattle.join_types.specs.Writes.{plain_write}
use Rattle.join_set.proofs.SummaryLemmas.{cause_over-StandsFor}
use Rattle.join_set.proofs.standing.Standing.judge.Goals as goal

pub returns-clause-verdict : goal.returns-clause-verdict
returns-clause-verdict c =
    IfOk-weaker c.cause.result _ _ (λ found e h s. e ∙ cause_over-StandsFor c.args.self.now h (plain_write c.args.write.now) s) c.cause.ensures
