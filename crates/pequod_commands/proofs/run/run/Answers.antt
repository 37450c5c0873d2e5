use Rattle.pequod_commands.proofs.RunLemmas.{runs_to_no_memory}
use Rattle.pequod_commands.proofs.run.run.Goals as goal

pub returns-in-Err-clause-run : goal.returns-in-Err-clause-run
returns-in-Err-clause-run g c = runs_to_no_memory _ _ _ c.memory.ensures
