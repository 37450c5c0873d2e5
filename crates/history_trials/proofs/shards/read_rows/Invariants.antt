use Rattle.history_trials.specs.Seated.{IsPinned}
use Rattle.history_trials.proofs.shards.read_rows.Given as goal

abbrev pub ghosts-pairs : goal.ghosts-pairs
ghosts-pairs g a = record { name = a.blank.name; parts = a.blank.parts }

abbrev pub invariant-loop-p : goal.invariant-loop-p
invariant-loop-p g l = IsPinned g.N.Naming.history l.pass l.last
