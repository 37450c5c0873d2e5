use Rattle.std.proofs.Common.{length, sym, ap, ◌∙◌}
use Rattle.updater_index.specs.Registered.{Index}
use Rattle.updater_index.proofs.FilledLemmas.{length-filled}
use Rattle.updater_index.proofs.index.UpdaterIndex.ids.Goals as goal

pub returns : goal.returns
returns c = sym (length-filled c.self.inside.ids c.self.inside.registered c.self.invariant) ∙ ap (λ (index : Index). length index.held) c.self.view_is
