use Rattle.cache_trials.proofs.earlier.what_lies_65_536_entries_back_is_told.Given as goal

-- the history that was just made
abbrev pub ghosts-put_and_ask : goal.ghosts-put_and_ask
ghosts-put_and_ask g a = record { history = a.seats.history }
