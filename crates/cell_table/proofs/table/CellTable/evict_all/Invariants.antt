use Rattle.std.proofs.Common.{take}
use Rattle.cell_table.proofs.EvictLemmas.{EvictsOf}
use Rattle.cell_table.proofs.table.CellTable.evict_all.Given as goal

-- of the victims so far some are evicted, and nothing else changes
abbrev pub invariant-loop-victim : goal.invariant-loop-victim
invariant-loop-victim l = EvictsOf (take l.victim-index l.victims) l.initial.self l.self
