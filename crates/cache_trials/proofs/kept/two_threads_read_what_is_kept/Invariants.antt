use Rattle.cache_trials.proofs.kept.two_threads_read_what_is_kept.Given as goal

-- the history that was just made
abbrev pub ghosts-two_read : goal.ghosts-two_read
ghosts-two_read g a = record { history = a.seats.history }
