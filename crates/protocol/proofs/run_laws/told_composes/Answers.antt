use Rattle.protocol.proofs.Telling.{told-append}
use Rattle.protocol.proofs.run_laws.told_composes.Goals as goal

pub returns : goal.returns
returns c = told-append
