use Rattle.evict_book.proofs.VictimLemmas.{victims_are_fewest}
use Rattle.evict_book.proofs.laws.victims_are_fewest.Goals as goal

pub returns : goal.returns
returns c = victims_are_fewest
