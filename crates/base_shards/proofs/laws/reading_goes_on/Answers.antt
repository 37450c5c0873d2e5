use Rattle.base_shards.proofs.ReadingLemmas.{reads_on-trans}
use Rattle.base_shards.proofs.laws.reading_goes_on.Goals as goal

pub returns : goal.returns
returns c = reads_on-trans
