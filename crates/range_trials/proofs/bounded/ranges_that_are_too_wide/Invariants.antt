use Rattle.range_trials.proofs.bounded.ranges_that_are_too_wide.Given as goal

abbrev pub ghosts-play : goal.ghosts-play
ghosts-play g a = record { name = a.blank.name; parts = a.blank.parts }
