use Rattle.std.proofs.Common.{[], refl, sym, ap, ◌∙◌}
use Rattle.std.specs.Option.{option_copied}
use Rattle.base_versions.specs.Groups.{ByGroup, changes_among}
use Rattle.base_versions.proofs.NamedLemmas.{among_found}
use Rattle.base_versions.proofs.groups.ChangesByGroup.find.Goals as goal

pub returns : goal.returns
returns c =
    let group = c.args.group.now in
    sym (among_found [] group group c.self.inside.queues.entries (option_copied c.get.result) refl c.get.ensures.value) ∙ ap (λ (g : ByGroup). changes_among group g.queues) c.self.view_is
