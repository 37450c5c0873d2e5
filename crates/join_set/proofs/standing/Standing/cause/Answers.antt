use Rattle.std.proofs.Common.{◌∙◌, ◌≤◌, ◌<◌, sym, ap, le-leb, arith, ◌^◌, ◌-◌}
use Rattle.std.proofs.lemmas.Result.{IfOk-weaker}
use Rattle.join_types.specs.Writes.{plain_write}
use Rattle.join_set.specs.Summaries.{Summary}
use Rattle.join_set.proofs.CauseLemmas.{few_below}
use Rattle.join_set.proofs.SummaryLemmas.{cause_over-full, cause_over-room}
use Rattle.join_set.proofs.standing.Standing.cause.Goals as goal

pub returns-then-self-ge-FULL : goal.returns-then-self-ge-FULL
returns-then-self-ge-FULL c =
    let full : 2 ^ 48 - 1 ≤ c.args.self.now.length = omega (arith, ap (λ (s : Summary). s.length) c.self.view_is) in
    sym (cause_over-full c.args.self.now (plain_write c.args.write.now) (le-leb (2 ^ 48 - 1) c.args.self.now.length full))

pub returns : goal.returns
returns c =
    let room : c.args.self.now.length < 2 ^ 48 - 1 = omega (arith, ap (λ (s : Summary). s.length) c.self.view_is) in
    IfOk-weaker c.own_cause.result _ _ (λ found e. e ∙ sym (cause_over-room c.args.self.now (plain_write c.args.write.now) (few_below (2 ^ 48 - 1) c.args.self.now.length room))) c.own_cause.ensures
