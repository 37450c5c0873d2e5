use Rattle.history_trials.proofs.counts.counts_up_to_the_largest_number.Given as goal

abbrev pub ghosts-hand_out_most : goal.ghosts-hand_out_most
ghosts-hand_out_most g a = record { name = a.blank.name; parts = a.blank.parts }
