use Rattle.cache_trials.proofs.clients.two_threads_put_and_meet.Given as goal

-- the history that was just made
abbrev pub ghosts-two_put_and_meet : goal.ghosts-two_put_and_meet
ghosts-two_put_and_meet g a = record { history = a.seats.history }
