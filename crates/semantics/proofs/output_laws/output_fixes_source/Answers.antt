use Rattle.semantics.proofs.CopyLemmas.{output_fixes_source}
use Rattle.semantics.proofs.output_laws.output_fixes_source.Goals as goal

pub returns : goal.returns
returns c = output_fixes_source
