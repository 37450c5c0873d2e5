use Rattle.std.proofs.Common.{ap, ◌∙◌}
use Rattle.std.proofs.lemmas.Result.{IfOk-weaker}
use Rattle.updater_index.specs.Registered.{stabbed}
use Rattle.updater_index.proofs.IndexLemmas.{found_is_stabbed}
use Rattle.updater_index.proofs.registered.Registered.stab.Goals as goal

pub returns : goal.returns
returns c =
    IfOk-weaker c.listed.result _ _ (λ ids e. e
    ∙ found_is_stabbed c.self.inside.by_id.items c.self.inside.forks c.args.key.now c.new-found.result c.find.new.found c.self.invariant c.new-found.ensures.empty c.listed.ensures.ascending c.in_ok-find.ensures.finds c.in_ok-find.ensures.all
    ∙ ap (stabbed c.args.key.now) c.self.view_is)
    c.listed.ensures.ids
