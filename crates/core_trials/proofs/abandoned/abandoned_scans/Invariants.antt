use Rattle.core_trials.proofs.abandoned.abandoned_scans.Given as goal

abbrev pub ghosts-abandon_one : goal.ghosts-abandon_one
ghosts-abandon_one g a = record { name = a.blank.name; parts = a.blank.parts }
