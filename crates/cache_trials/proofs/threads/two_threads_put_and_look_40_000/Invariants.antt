use Rattle.cache_trials.proofs.threads.two_threads_put_and_look_40_000.Given as goal

abbrev pub ghosts-share_the_work : goal.ghosts-share_the_work
ghosts-share_the_work g a = record { history = a.seats.history }
