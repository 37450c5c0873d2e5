use Rattle.agg_rows.proofs.GroupLemmas.{set_leaves_listed}
use Rattle.agg_rows.proofs.laws.set_leaves_listed.Goals as goal

pub returns : goal.returns
returns c = set_leaves_listed
