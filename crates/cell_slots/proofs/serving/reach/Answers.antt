use Rattle.std.proofs.Common.{take, inr, ◌∙◌}
use Rattle.std.proofs.lemmas.Option.{none-some}
use Rattle.std.proofs.lemmas.Result.{IfErr-weaker, on_err_weaker, on_ok_weaker}
use Rattle.semantics.specs.States.{below}
use Rattle.join_eval.specs.Bounds.{most_of}
use Rattle.join_eval.proofs.CollectingLemmas.{on_too_wide_always}
use Rattle.cell_slots.proofs.AdvancedLemmas.{filled_within}
use Rattle.cell_slots.proofs.serving.reach.Goals as goal

pub returns-in-None-clause-err : goal.returns-in-None-clause-err
returns-in-None-clause-err g c = on_err_weaker c.fill.result (λ forgotten. inr forgotten) c.fill.ensures.err

pub returns-in-None-clause-gone : goal.returns-in-None-clause-gone
returns-in-None-clause-gone g c = IfErr-weaker c.fill.result _ _ (λ fault nothing. on_too_wide_always fault nothing) c.fill.ensures.err

pub returns-in-None-clause-few : goal.returns-in-None-clause-few
returns-in-None-clause-few g c =
    let s = c.args.state.now in
    on_ok_weaker c.fill.result (λ few _. few)
    (filled_within c.fill.result (most_of c.args.bound) c.args.p (below (take c.args.p (g.R.Reader.list c.args.reader.now)) s.rank) s c.fill.new.self c.fill.ensures.filled c.fill.ensures.few)

pub returns-in-None-clause-known : goal.returns-in-None-clause-known
returns-in-None-clause-known g c = λ q stands less bare. absurd (none-some q (c.in-None.ensures ∙ stands))
