use Rattle.growing_history.proofs.TableKeys.{table_range_is_range_lem}
use Rattle.growing_history.proofs.pattern_laws.table_range_is_range.Goals as goal

pub returns : goal.returns
returns c = table_range_is_range_lem
