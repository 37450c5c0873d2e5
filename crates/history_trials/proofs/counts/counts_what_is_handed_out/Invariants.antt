use Rattle.history_trials.proofs.counts.counts_what_is_handed_out.Given as goal

abbrev pub ghosts-hand_out_twice : goal.ghosts-hand_out_twice
ghosts-hand_out_twice g a = record { name = a.blank.name; parts = a.blank.parts }
