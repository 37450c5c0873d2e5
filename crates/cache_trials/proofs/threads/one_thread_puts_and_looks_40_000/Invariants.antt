use Rattle.cache_trials.proofs.threads.one_thread_puts_and_looks_40_000.Given as goal

abbrev pub ghosts-share_the_work : goal.ghosts-share_the_work
ghosts-share_the_work g a = record { history = a.seats.history }
