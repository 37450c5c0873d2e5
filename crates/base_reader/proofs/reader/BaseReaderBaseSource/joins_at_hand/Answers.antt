use Rattle.std.proofs.Common.{◌≤◌, sym, ap, ◌∙◌, subst}
use Rattle.semantics.specs.Histories.{History, changed_at}
use Rattle.join_set.specs.Sets.{Joins, AreJoins}
use Rattle.base_reader.proofs.LaterLemmas.{joins_before}
use Rattle.base_reader.proofs.reader.BaseReaderBaseSource.joins_at_hand.Goals as goal

pub returns-then-changed_at-p : goal.returns-then-changed_at-p
returns-then-changed_at-p c =
    let last = c.changed_at.ensures.changed ∙ ap (λ (js : Joins). js.changed) c.joins-joins.ensures.joins ∙ c.self.invariant.summary.joins.changed ∙ ap changed_at c.self.view_is in
    joins_before 0 c.args.p c.joins-joins.result.now c.args.self.now (subst (λ n. n ≤ c.args.p) last c.if-changed_at-p.true)
    (subst (λ (h : History). AreJoins 0 c.joins-joins.result.now h) c.self.view_is
    (subst (λ n. AreJoins n c.joins-joins.result.now c.self.inside.entries.items) c.self.invariant.unsettled
    (subst (λ (js : Joins). AreJoins c.self.inside.standing.floor js c.self.inside.entries.items) (sym c.joins-joins.ensures.joins) c.self.invariant.summary.joins)))
