use Rattle.cache_trials.proofs.together.more_entries_than_are_kept.Given as goal

-- the history that was just made
abbrev pub ghosts-hold : goal.ghosts-hold
ghosts-hold g a = record { history = a.seats.history }
