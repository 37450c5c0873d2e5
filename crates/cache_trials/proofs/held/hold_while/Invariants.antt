use Rattle.cache_trials.proofs.held.hold_while.Given as goal

abbrev pub ghosts-hold_and_pass : goal.ghosts-hold_and_pass
ghosts-hold_and_pass g a = record { history = a.seats.history }
