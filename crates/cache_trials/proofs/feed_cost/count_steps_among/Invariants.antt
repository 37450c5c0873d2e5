use Rattle.cache_trials.proofs.feed_cost.count_steps_among.Given as goal

-- the history that was just made
abbrev pub ghosts-count_steps : goal.ghosts-count_steps
ghosts-count_steps g a = record { history = a.seats.history }
