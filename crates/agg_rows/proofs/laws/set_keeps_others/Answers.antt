use Rattle.agg_rows.proofs.GroupLemmas.{set_keeps_others}
use Rattle.agg_rows.proofs.laws.set_keeps_others.Goals as goal

pub returns : goal.returns
returns c = set_keeps_others
