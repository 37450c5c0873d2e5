use Rattle.std.proofs.Common.{sym, ap, ◌∙◌}
use Rattle.std.proofs.lemmas.Result.{IfOk-weaker}
use Rattle.updater_index.specs.Registered.{Index, stabbed}
use Rattle.updater_index.proofs.FilledLemmas.{stabbed-filled}
use Rattle.updater_index.proofs.index.UpdaterIndex.stab.Goals as goal

pub returns : goal.returns
returns c =
    let key = c.args.key.now in
    IfOk-weaker c.stab.result _ _ (λ ids is. is ∙ sym (stabbed-filled c.self.inside.ids key c.self.inside.registered) ∙ ap (λ (index : Index). stabbed key index.held) c.self.view_is) c.stab.ensures
