use Rattle.cache_trials.proofs.clients.each_client_reads_what_the_other_wrote.Given as goal

-- the history that was just made
abbrev pub ghosts-run : goal.ghosts-run
ghosts-run g a = record { history = a.seats.history }
