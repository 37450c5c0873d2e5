use Rattle.std.proofs.Common.{◌≡◌, ap, ◌∙◌, arith}
use Rattle.semantics.specs.States.{below}
use Rattle.join_set.specs.Sets.{Joins}
use Rattle.join_model.proofs.RankLemmas.{below_none, below_more}
use Rattle.join_model.proofs.evaluation.state_below.Goals as goal

pub loop-lower-init : goal.loop-lower-init
loop-lower-init c =
    below_none c.args.entries.now c.joins-joins.result.now.standing c.in_ok-standing.field-0.base c.hide_computed.new.table
    (ap (λ (j : Joins). j.standing) c.joins-joins.ensures.joins ∙ c.in_ok-standing.ensures.stands.joins.standing)
    c.in_ok-standing.ensures.base c.hide_computed.ensures

pub loop-lower-preserved : goal.loop-lower-preserved
loop-lower-preserved c =
    below_more c.args.entries.now c.loop-lower.lower c.joins-joins.result.now.standing c.loop-lower.table c.in_ok-table.table
    (ap (λ (j : Joins). j.standing) c.joins-joins.ensures.joins ∙ c.in_ok-standing.ensures.stands.joins.standing)
    c.loop-lower.invariant (c.in_ok-table.ensures ∙ c.in_ok-outputs.ensures)

pub returns : goal.returns
returns c =
    let last : c.loop-lower.lower ≡ c.args.rank = omega arith in
    c.loop-lower.invariant ∙ ap (below c.args.entries.now) last
