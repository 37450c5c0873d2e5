use Rattle.std.proofs.Common.{sym, subst, take}
use Rattle.std.proofs.lemmas.Result.{IfOk-weaker}
use Rattle.join_set.specs.Sets.{AreJoins}
use Rattle.write_history.specs.Marks.{reach}
use Rattle.write_history.specs.Passes.{PassView}
use Rattle.cache_trials.proofs.PassLemmas.{asks_near, joins_asked}
use Rattle.cache_trials.proofs.kept.joins_near.Goals as goal

pub joins_at-requires-clause-kept : goal.joins_at-requires-clause-kept
joins_at-requires-clause-kept g c = asks_near c.args.history.now c.args.pass.now c.args._at c.args.p c.requires.at_end c.requires.near

pub returns-clause-joins : goal.returns-clause-joins
returns-clause-joins g c =
    IfOk-weaker c.joins_at.result _ _
    (λ joins each. subst (λ (v : PassView). AreJoins (reach v.mark) joins (take c.args.p v.view)) (sym c.joins_at.ensures.unchanged)
    (joins_asked c.args.history.now c.args.pass.now c.args._at c.args.p joins c.requires.at_end each)) c.joins_at.ensures.joins
