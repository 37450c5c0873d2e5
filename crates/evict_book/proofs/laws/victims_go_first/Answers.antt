use Rattle.evict_book.proofs.VictimLemmas.{victims_go_first}
use Rattle.evict_book.proofs.laws.victims_go_first.Goals as goal

pub returns : goal.returns
returns c = victims_go_first
