use Rattle.std.proofs.Common.{◌≡◌, ◌-◌, ℕ, Some, sym, ap, ◌∙◌, subst}
use Rattle.join_set.specs.Sets.{Joins, AreJoins}
use Rattle.range_trials.specs.Tried.{IsTried}
use Rattle.range_trials.proofs.TriedLemmas.{tried_start}
use Rattle.range_trials.proofs.trial.start.Goals as goal

pub returns : goal.returns
returns g c =
    let are = subst (λ (js : Joins). AreJoins c.args.told.standing.floor js c.args.told.entries.items) (sym c.joins-joins.ensures.joins) c.requires.stands.joins in
    subst (λ (from : ℕ). IsTried c.new-2.result from c.length.result c.new.result) (sym c.changed_at.ensures.changed)
    (tried_start c.same_joins_since.ensures c.args.told.standing.floor c.args.told.entries.items c.new-2.result c.joins-joins.result.now c.in_ok-join.join (c.len-last.result - 1) c.rank.result c.length.result _ c.new.result
    c.new-2.ensures.list c.new-2.ensures.entered are (c.length.ensures.length ∙ c.requires.stands.same_length)
    (c.join.ensures ∙ ap (λ j. Some j) (sym c.in_ok-join.ensures)) c.rank.ensures.exact c.rank.ensures.shallow c.new.ensures)
