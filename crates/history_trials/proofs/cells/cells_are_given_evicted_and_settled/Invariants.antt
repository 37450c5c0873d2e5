use Rattle.std.specs.Arc.{arc_value}
use Rattle.history_trials.proofs.cells.cells_are_given_evicted_and_settled.Given as goal

-- the history that was just made
abbrev pub ghosts-make_and_try : goal.ghosts-make_and_try
ghosts-make_and_try g a = record { history = arc_value a.history }
