use Rattle.cache_trials.proofs.feeds.play_drawn.Given as goal

-- the history that was just made
abbrev pub ghosts-play : goal.ghosts-play
ghosts-play g a = record { history = a.seats.history }
