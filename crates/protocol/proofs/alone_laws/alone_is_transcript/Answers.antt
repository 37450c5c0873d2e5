use Rattle.protocol.proofs.AloneRuns as runs
use Rattle.protocol.proofs.alone_laws.alone_is_transcript.Goals as goal

pub returns : goal.returns
returns c = runs.alone_is_transcript
