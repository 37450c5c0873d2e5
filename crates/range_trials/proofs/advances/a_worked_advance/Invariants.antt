use Rattle.range_trials.proofs.advances.a_worked_advance.Given as goal

abbrev pub ghosts-advanced_timeline : goal.ghosts-advanced_timeline
ghosts-advanced_timeline g a = record { name = a.blank.name; parts = a.blank.parts }
