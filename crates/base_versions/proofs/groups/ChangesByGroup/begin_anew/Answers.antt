use Rattle.std.proofs.Common.{true, ap}
use Rattle.base_versions.specs.Named.{named}
use Rattle.base_versions.proofs.GroupedLemmas.{grouped-none}
use Rattle.base_versions.proofs.groups.ChangesByGroup.begin_anew.Goals as goal

pub returns : goal.returns
returns c = grouped-none (record { kept = true; queues = named c.clear.new.self.entries }) (ap named c.clear.ensures.empty)
