use Rattle.shared_reader.proofs.LentLemmas.{lent_reads_on-refl}
use Rattle.range_cells.proofs.stack.Stack.try_hand.Goals as goal

pub returns-in-None-clause-reads_on : goal.returns-in-None-clause-reads_on
returns-in-None-clause-reads_on g c = lent_reads_on-refl c.args.self.now
