use Rattle.std.proofs.Common.{◌≡◌, ◌++◌, take}
use Rattle.join_set.specs.Readings.{edges_from}
use Rattle.join_set.proofs.reading.add_edges.Given as goal

abbrev pub invariant-loop-other : goal.invariant-loop-other
invariant-loop-other l = l.edges.items ≡ l.initial.edges.items ++ edges_from l.number l.reader (take l.other l.joins)
