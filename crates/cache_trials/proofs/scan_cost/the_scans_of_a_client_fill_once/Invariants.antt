use Rattle.cache_trials.proofs.scan_cost.the_scans_of_a_client_fill_once.Given as goal

-- the history that was just made
abbrev pub ghosts-scan_over_writes : goal.ghosts-scan_over_writes
ghosts-scan_over_writes g a = record { history = a.seats.history }
