use Rattle.history_trials.specs.Seated.{IsPinned}
use Rattle.history_trials.proofs.shards.two_put_and_read.Given as goal

abbrev pub ghosts-pairs : goal.ghosts-pairs
ghosts-pairs g a = record { name = a.blank.name; parts = a.blank.parts }

abbrev pub invariant-loop-name : goal.invariant-loop-name
invariant-loop-name g l = IsPinned g.N.Naming.history l.first l.last
