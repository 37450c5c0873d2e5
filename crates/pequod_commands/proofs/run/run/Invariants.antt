use Rattle.pequod_commands.proofs.run.run.Given as goal

-- the history that was just made
abbrev pub ghosts-serve_alone : goal.ghosts-serve_alone
ghosts-serve_alone g a = record { history = a.seats.history }
