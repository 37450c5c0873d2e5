use Rattle.std.proofs.Common.{refl}
use Rattle.worked_runs.proofs.Computes.{definitions_on_literals}
use Rattle.worked_runs.proofs.earlier_rows.entries_after.Goals as goal

pub returns : goal.returns
unfolding definitions_on_literals
returns c = refl
