use Rattle.core_trials.proofs.letting_go.a_change_of_joins_frees_their_cells.Given as goal

abbrev pub ghosts-show_row : goal.ghosts-show_row
ghosts-show_row g a = record { name = a.blank.name; parts = a.blank.parts }
