use Rattle.cache_trials.proofs.clients.one_client_puts_70_000_times.Given as goal

abbrev pub ghosts-make_and_put : goal.ghosts-make_and_put
ghosts-make_and_put g a = record { history = a.seats.history }
