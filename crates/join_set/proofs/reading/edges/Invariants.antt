use Rattle.std.proofs.Common.{◌≡◌, ℕ, take}
use Rattle.semantics.specs.Verdicts.{joined}
use Rattle.join_set.proofs.ReadingLemmas.{edges_of_first}
use Rattle.join_set.proofs.reading.edges.Given as goal

abbrev pub invariant-loop-number : goal.invariant-loop-number
invariant-loop-number l = (at : ℕ) → l.edges.items ≡ edges_of_first (take l.number l.joins) (joined l.joins at l.join)
