use Rattle.join_lang.proofs.BackLemmas.{reads_back}
use Rattle.join_lang.proofs.laws.reads_back.Goals as goal

pub returns : goal.returns
returns c = reads_back
