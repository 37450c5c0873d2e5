use Rattle.history_trials.proofs.shards.read_both.Given as goal

abbrev pub ghosts-pairs : goal.ghosts-pairs
ghosts-pairs g a = record { name = a.blank.name; parts = a.blank.parts }
