use Rattle.cache_trials.proofs.clients.joins_are_declared_and_dropped_after_puts.Given as goal

-- the history that was just made
abbrev pub ghosts-run : goal.ghosts-run
ghosts-run g a = record { history = a.seats.history }
