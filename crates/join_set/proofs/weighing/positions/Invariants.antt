use Rattle.std.proofs.Common.{◌≡◌, take, map}
use Rattle.semantics.specs.Joins.{Join}
use Rattle.semantics.specs.Verdicts.{joined, position_at}
use Rattle.join_set.proofs.weighing.positions.Given as goal

abbrev pub invariant-loop-number : goal.invariant-loop-number
invariant-loop-number l = (join : Join) → l.found.items ≡ map (position_at (joined l.joins l.at join)) (take l.number-index l.numbers)
