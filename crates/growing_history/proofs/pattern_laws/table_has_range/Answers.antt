use Rattle.growing_history.proofs.TableKeys.{table_has_range_lem}
use Rattle.growing_history.proofs.pattern_laws.table_has_range.Goals as goal

pub returns : goal.returns
returns c = table_has_range_lem
