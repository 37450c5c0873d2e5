use Rattle.std.proofs.Common.{◌≡◌, sym, ap, ◌∙◌}
use Rattle.join_set.specs.Sets.{Joins}
use Rattle.write_history.specs.Stored.{Stored}
use Rattle.write_history.proofs.Telling.{told_none, told_all}
use Rattle.write_history.proofs.log.Log.joins_unless.Goals as goal

pub returns-then-changed_at-known : goal.returns-then-changed_at-known
returns-then-changed_at-known c = λ h floor is.
    let kept : c.joins-joins.result.now ≡ c.args.self.now.summary.joins = c.joins-joins.ensures.joins ∙ ap (λ (l : Stored). l.summary.joins) c.self.view_is in
    told_none h floor c.args.self.now c.joins-joins.result.now c.args.known is kept (sym c.changed_at.ensures.changed ∙ c.if-changed_at-known.true)

pub returns : goal.returns
returns c = λ h floor is.
    let kept : c.joins-joins.result.now ≡ c.args.self.now.summary.joins = c.joins-joins.ensures.joins ∙ ap (λ (l : Stored). l.summary.joins) c.self.view_is in
    let settled = sym (ap (λ (l : Stored). l.summary.floor) c.self.view_is) ∙ c.self.invariant.2 ∙ ap (λ (l : Stored). l.lacks) c.self.view_is ∙ is.lacked in
    told_all h floor c.args.self.now _ c.args.known is settled (c.in_ok-copy.ensures ∙ kept)
    (λ e. c.if-changed_at-known.false (c.changed_at.ensures.changed ∙ ap (λ (j : Joins). j.changed) (sym c.in_ok-copy.ensures) ∙ e))
