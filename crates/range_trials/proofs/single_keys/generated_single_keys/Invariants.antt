use Rattle.range_trials.proofs.single_keys.generated_single_keys.Given as goal

abbrev pub ghosts-play : goal.ghosts-play
ghosts-play g a = record { name = a.blank.name; parts = a.blank.parts }
