use Rattle.kept_ranges.proofs.AdvanceLemmas.{unapplied_is_same}
use Rattle.kept_ranges.proofs.advance_laws.unapplied_is_same.Goals as goal

pub returns : goal.returns
returns c = unapplied_is_same
