use Rattle.cache_trials.proofs.earlier.a_timeline_is_told_as_it_stood.Given as goal

-- the history that was just made
abbrev pub ghosts-run : goal.ghosts-run
ghosts-run g a = record { history = a.seats.history }
