use Rattle.base_versions.proofs.ChangeLemmas.{changed_in-changes_of}
use Rattle.base_versions.proofs.laws.changed_in_is_changed.Goals as goal

pub returns : goal.returns
returns c = changed_in-changes_of
