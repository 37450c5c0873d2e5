use Rattle.cache_trials.specs.Passes.{IsWriter}
use Rattle.cache_trials.proofs.kept.post_and_read.Given as goal

abbrev pub ghosts-read_at : goal.ghosts-read_at
ghosts-read_at g a = record { name = a.blank.name; parts = a.blank.parts }

abbrev pub invariant-loop-number : goal.invariant-loop-number
invariant-loop-number g l = IsWriter g.N.Naming.history l.pass
