use Rattle.agg_rows.proofs.GroupLemmas.{set_lists_pair}
use Rattle.agg_rows.proofs.laws.set_lists_pair.Goals as goal

pub returns : goal.returns
returns c = set_lists_pair
