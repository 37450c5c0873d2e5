use Rattle.cell_table.specs.Moves.{GetCells}
use Rattle.cell_table.proofs.table.CellTable.reserve_parts.Given as goal

-- the parts so far have got their cells
abbrev pub invariant-loop-part : goal.invariant-loop-part
invariant-loop-part l = GetCells l.at l.rank l.join l.initial.self l.yielded l.made.items l.self
