use Rattle.std.proofs.Common.{refl}
use Rattle.protocol.specs.Transcript.{memory_lines}
use Rattle.worked_runs.proofs.Computes.{definitions_on_literals}
use Rattle.worked_runs.proofs.input_rows.starved.Goals as goal

pub returns : goal.returns
unfolding definitions_on_literals memory_lines
returns c = refl
