use Rattle.std.specs.Arc.{arc_value}
use Rattle.history_trials.proofs.shards.two_threads_put_and_read.Given as goal

-- the history that was just made
abbrev pub ghosts-two_put_and_read : goal.ghosts-two_put_and_read
ghosts-two_put_and_read g a = record { history = arc_value a.history }
