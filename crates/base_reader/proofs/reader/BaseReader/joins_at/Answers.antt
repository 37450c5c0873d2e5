use Rattle.std.proofs.Common.{length, take, ap, ◌∙◌, subst, arith}
use Rattle.std.proofs.lemmas.Result.{IfOk-weaker}
use Rattle.semantics.specs.Histories.{History}
use Rattle.join_set.specs.Sets.{AreJoins}
use Rattle.base_reader.proofs.reader.BaseReader.joins_at.Goals as goal

pub joins_at-requires-clause-above : goal.joins_at-requires-clause-above
joins_at-requires-clause-above c = omega (arith, c.self.invariant.unsettled)

pub joins_at-requires-clause-within : goal.joins_at-requires-clause-within
joins_at-requires-clause-within c =
    let long = c.self.invariant.summary.same_length ∙ ap length c.self.view_is in
    omega (arith, long, c.requires)

pub returns : goal.returns
returns c =
    IfOk-weaker c.joins_at.result _ _
    (λ joins are.
    subst (λ (h : History). AreJoins 0 joins (take c.args.p h)) c.self.view_is
    (subst (λ n. AreJoins n joins (take c.args.p c.self.inside.entries.items)) c.self.invariant.unsettled (are c.self.inside.entries.items c.self.invariant.summary)))
    c.joins_at.ensures
