-- The edges of a reading, by the join that reads.
use Rattle.std.specs.Prelude.{ℕ, List, filter_map, if◌then◌else◌, Option, Some, None}
use Rattle.std.specs.List.{enumerate_from}
use Rattle.semantics.specs.Joins.{Join, reads_output}
use Rattle.semantics.specs.Histories.{DeclaredJoin}

-- the pair of numbers, where the first join reads the second
abbrev pub edge_between : ℕ × Join → ℕ × DeclaredJoin → Option (ℕ × ℕ)
edge_between a b = if reads_output a.1 b.1.join then Some (a.0, b.0) else None

-- the edges from a reader to those joins of a set that it reads
abbrev pub edges_from : ℕ → Join → List DeclaredJoin → List (ℕ × ℕ)
edges_from number reader joins = filter_map (edge_between (number, reader)) (enumerate_from 0 joins)
