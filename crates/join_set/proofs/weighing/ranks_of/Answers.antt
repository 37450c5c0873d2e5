use Rattle.std.proofs.Common.{◌≡◌, ◌+◌, ◌∙◌, ap, length, take, arith}
use Rattle.semantics.specs.Histories.{DeclaredJoin}
use Rattle.semantics.specs.States.{reading}
use Rattle.semantics.specs.Verdicts.{joined}
use Rattle.join_set.proofs.RemoveLemmas.{whole, ends_of_whole}
use Rattle.join_set.proofs.weighing.ranks_of.Goals as goal

pub ranks-requires-clause-ends : goal.ranks-requires-clause-ends
ranks-requires-clause-ends c =
    let long : length c.args.joins.now ≡ c.in-Some.last + 1 = omega (arith, c.in-Some.ensures.0, c.in-Some.ensures.1) in
    ends_of_whole c.args.joins.now c.as_slice.result.now
    (c.as_slice.ensures.value ∙ c.in_ok-edges.ensures c.index-joins-last.result.position
    ∙ ap (λ (s : DeclaredJoin). reading (joined (take c.in-Some.last c.args.joins.now) c.index-joins-last.result.position s.join)) c.stands.view_is
    ∙ ap reading (whole c.args.joins.now c.in-Some.last c.index-joins-last.result long c.index-joins-last.is))
