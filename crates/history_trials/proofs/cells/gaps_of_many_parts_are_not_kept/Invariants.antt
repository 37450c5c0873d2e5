use Rattle.history_trials.proofs.cells.gaps_of_many_parts_are_not_kept.Given as goal

-- the history that was just made
abbrev pub ghosts-give_many : goal.ghosts-give_many
ghosts-give_many g a = record { history = a.history.now }
