use Rattle.server.proofs.opening.serve.Given as goal

-- the history that was just made
abbrev pub ghosts-serve_seats-N-Naming : goal.ghosts-serve_seats-N-Naming
ghosts-serve_seats-N-Naming g a = record { history = a.seats.history }

-- the joins that are declared
abbrev pub ghosts-serve_seats-J-Declaring : goal.ghosts-serve_seats-J-Declaring
ghosts-serve_seats-J-Declaring g a = record { joins = a.joins.items }
