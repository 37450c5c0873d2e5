use Rattle.std.specs.Arc.{arc_value}
use Rattle.history_trials.proofs.settling.two_threads_put_and_settle.Given as goal

-- the history that was just made
abbrev pub ghosts-two_settle : goal.ghosts-two_settle
ghosts-two_settle g a = record { history = arc_value a.history }
