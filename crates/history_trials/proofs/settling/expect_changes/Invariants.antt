use Rattle.history_trials.specs.Seated.{IsPinned}
use Rattle.history_trials.proofs.settling.expect_changes.Given as goal

abbrev pub ghosts-changed : goal.ghosts-changed
ghosts-changed g a = record { name = a.blank.name; parts = a.blank.parts }

abbrev pub invariant-loop-q : goal.invariant-loop-q
invariant-loop-q g l = IsPinned g.N.Naming.history l.pass l.at
