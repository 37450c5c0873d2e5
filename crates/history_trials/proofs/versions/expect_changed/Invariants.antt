use Rattle.history_trials.proofs.versions.expect_changed.Given as goal

abbrev pub ghosts-changed : goal.ghosts-changed
ghosts-changed g a = record { name = a.blank.name; parts = a.blank.parts }
