use Rattle.history_trials.proofs.versions.expect_pairs.Given as goal

abbrev pub ghosts-pairs : goal.ghosts-pairs
ghosts-pairs g a = record { name = a.blank.name; parts = a.blank.parts }
