use Rattle.cache_trials.proofs.alone.one_client_of_a_cache.Given as goal

-- the history that was just made
abbrev pub ghosts-ask_lone_client : goal.ghosts-ask_lone_client
ghosts-ask_lone_client g a = record { history = a.seats.history }
