use Rattle.cell_table.proofs.EvictLemmas.{Settles}
use Rattle.cell_table.proofs.table.CellTable.settle_used.Given as goal

-- the cells so far are settled
abbrev pub invariant-loop-index : goal.invariant-loop-index
invariant-loop-index l = Settles l.index l.initial.self l.self
