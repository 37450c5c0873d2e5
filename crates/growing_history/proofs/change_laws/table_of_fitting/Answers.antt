use Rattle.growing_history.proofs.TableNameLemmas.{table_of_fitting}
use Rattle.growing_history.proofs.change_laws.table_of_fitting.Goals as goal

pub returns : goal.returns
returns c = table_of_fitting
