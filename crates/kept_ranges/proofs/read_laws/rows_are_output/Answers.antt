use Rattle.kept_ranges.proofs.ReadLemmas.{rows_are_output}
use Rattle.kept_ranges.proofs.read_laws.rows_are_output.Goals as goal

pub returns : goal.returns
returns c = rows_are_output
