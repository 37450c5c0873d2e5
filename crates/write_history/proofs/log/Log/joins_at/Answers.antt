use Rattle.std.proofs.Common.{◌≡◌, take, sym, ap, ◌∙◌, subst, arith}
use Rattle.std.proofs.lemmas.Result.{IfOk-weaker}
use Rattle.join_set.specs.Summaries.{Summary, StandsFor}
use Rattle.join_set.specs.Sets.{AreJoins}
use Rattle.write_history.specs.Stored.{Stored}
use Rattle.write_history.proofs.log.Log.joins_at.Goals as goal

pub joins_at-requires-clause-above : goal.joins_at-requires-clause-above
joins_at-requires-clause-above c =
    let known = c.requires in
    let lacks = ap (λ (l : Stored). l.lacks) c.self.view_is in
    omega (arith, c.self.invariant.2, lacks, known.2.lacked, known.3)

pub joins_at-requires-clause-within : goal.joins_at-requires-clause-within
joins_at-requires-clause-within c =
    let known = c.requires in
    let long = ap (λ (l : Stored). l.summary.length) c.self.view_is in
    omega (arith, long, known.2.stands.same_length, known.4)

pub returns : goal.returns
returns c =
    IfOk-weaker c.joins_at.result _ _
    (λ joins each h lacks is.
    let from : c.self.inside.standing.floor ≡ lacks = c.self.invariant.2 ∙ ap (λ (l : Stored). l.lacks) c.self.view_is ∙ is.lacked in
    subst (λ n. AreJoins n joins (take c.args.p h)) from
    (each h (subst (λ (s : Summary). StandsFor s h) (sym (ap (λ (l : Stored). l.summary) c.self.view_is)) is.stands)))
    c.joins_at.ensures
