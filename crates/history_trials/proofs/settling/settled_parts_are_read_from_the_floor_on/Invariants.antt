use Rattle.std.specs.Arc.{arc_value}
use Rattle.history_trials.proofs.settling.settled_parts_are_read_from_the_floor_on.Given as goal

-- the history that was just made
abbrev pub ghosts-read_late : goal.ghosts-read_late
ghosts-read_late g a = record { history = arc_value a.history }
