use Rattle.cache_trials.proofs.clients.writes_are_refused_after_what_others_wrote.Given as goal

-- the history that was just made
abbrev pub ghosts-run : goal.ghosts-run
ghosts-run g a = record { history = a.seats.history }
