use Rattle.cell_table.proofs.EvictLemmas.{settled_unused}
use Rattle.cell_table.proofs.table.CellTable.settle.Goals as goal

pub returns-clause-settled : goal.returns-clause-settled
returns-clause-settled c = settled_unused c.settle_used-settled.result c.args.self.now c.settle_used-settled.new.self c.clear_used.new.self c.settle_used-settled.ensures.settled c.clear_used.ensures.only

pub returns-clause-first : goal.returns-clause-first
returns-clause-first c = (c.settle_used-settled.new.self, c.settle_used-settled.ensures.first, c.clear_used.ensures.only)
