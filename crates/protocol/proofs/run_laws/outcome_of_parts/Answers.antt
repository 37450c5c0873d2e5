use Rattle.protocol.proofs.Runs.{outcome_from-append}
use Rattle.protocol.proofs.run_laws.outcome_of_parts.Goals as goal

pub returns : goal.returns
returns c reading starved number h first second = outcome_from-append reading starved first number h second
