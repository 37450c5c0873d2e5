use Rattle.std.proofs.Common.{◌<◌, [], List, length, None}
use Rattle.base_versions.specs.declared.changes.Change.{Change}
use Rattle.base_versions.specs.Named.{named}
use Rattle.base_versions.proofs.NamedLemmas.{same-from_taken}
use Rattle.base_versions.proofs.EachLemmas.{update-named, each-update}
use Rattle.base_versions.proofs.groups.remove_group.Goals as goal

pub returns-clause-same : goal.returns-clause-same
returns-clause-same c = λ other. same-from_taken [] c.args.group.now c.args.queues.now c.remove.new.self c.remove.ensures.updates c.requires other

pub returns-clause-gone : goal.returns-clause-gone
returns-clause-gone c = λ others.
    each-update (λ (changes : List Change). 0 < length changes) c.args.group.now None (named c.args.queues.now.entries) (named c.remove.new.self.entries)
    (update-named c.args.group.now None c.args.queues.now c.remove.new.self c.remove.ensures.updates) tt others
