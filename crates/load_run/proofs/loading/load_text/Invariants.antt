use Rattle.load_run.proofs.loading.load_text.Given as goal

-- the history that was just made
abbrev pub ghosts-load_seats : goal.ghosts-load_seats
ghosts-load_seats g a = record { history = a.seats.history }
