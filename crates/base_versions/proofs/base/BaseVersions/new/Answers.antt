use Rattle.std.proofs.Common.{refl, ap}
use Rattle.base_versions.specs.Named.{named}
use Rattle.base_versions.proofs.EnterLemmas.{stands-nil}
use Rattle.base_versions.proofs.base.BaseVersions.new.Goals as goal

pub returns-clause-none : goal.returns-clause-none
returns-clause-none c = stands-nil _ refl (ap named c.new.ensures.empty)
