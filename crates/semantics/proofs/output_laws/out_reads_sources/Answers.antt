use Rattle.semantics.proofs.ChoiceLemmas.{out_reads_sources}
use Rattle.semantics.proofs.output_laws.out_reads_sources.Goals as goal

pub returns : goal.returns
returns c = out_reads_sources
