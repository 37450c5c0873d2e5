use Rattle.core_trials.proofs.many_kept.compare_steps.Given as goal

abbrev pub ghosts-steps_of_scan : goal.ghosts-steps_of_scan
ghosts-steps_of_scan g a = record { name = a.blank.name; parts = a.blank.parts }
