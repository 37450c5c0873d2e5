use Rattle.cache_trials.proofs.playing.play_row.Given as goal

-- the history that was just made
abbrev pub ghosts-play : goal.ghosts-play
ghosts-play g a = record { history = a.seats.history }
