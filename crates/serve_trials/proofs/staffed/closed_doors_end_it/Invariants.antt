use Rattle.serve_trials.proofs.staffed.closed_doors_end_it.Given as goal

-- the history that was just made
abbrev pub ghosts-serve-N-Naming : goal.ghosts-serve-N-Naming
ghosts-serve-N-Naming g a = record { history = a.seats.history }

-- the joins that were just made
abbrev pub ghosts-serve-J-Declaring : goal.ghosts-serve-J-Declaring
ghosts-serve-J-Declaring g a = record { joins = a.joins.items }
