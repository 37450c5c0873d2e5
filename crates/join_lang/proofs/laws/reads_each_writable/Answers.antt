use Rattle.join_lang.proofs.AcceptLemmas.{reads_each_writable}
use Rattle.join_lang.proofs.laws.reads_each_writable.Goals as goal

pub returns : goal.returns
returns c = reads_each_writable
