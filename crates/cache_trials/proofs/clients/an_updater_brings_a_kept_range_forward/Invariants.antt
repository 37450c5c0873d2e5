use Rattle.cache_trials.proofs.clients.an_updater_brings_a_kept_range_forward.Given as goal

-- the history that was just made
abbrev pub ghosts-make_and_turn : goal.ghosts-make_and_turn
ghosts-make_and_turn g a = record { history = a.seats.history }
