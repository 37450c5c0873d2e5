use Rattle.base_versions.proofs.VersionLemmas.{value_in-versions_of}
use Rattle.base_versions.proofs.laws.value_in_is_base.Goals as goal

pub returns : goal.returns
returns c = value_in-versions_of
