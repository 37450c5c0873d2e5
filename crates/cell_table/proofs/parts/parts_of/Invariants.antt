use Rattle.std.proofs.Common.{◌≡◌, map}
use Rattle.cell_table.specs.Stores.{part_of}
use Rattle.cell_table.proofs.parts.parts_of.Given as goal

-- the parts so far are the pieces so far
abbrev pub invariant-loop-piece : goal.invariant-loop-piece
invariant-loop-piece l = l.parts.items ≡ map part_of l.yielded
