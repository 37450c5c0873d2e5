use Rattle.cache_trials.proofs.flips.ranks_that_change_places_hold_nobody.Given as goal

-- the history that was just made
abbrev pub ghosts-cross : goal.ghosts-cross
ghosts-cross g a = record { history = a.seats.history }
