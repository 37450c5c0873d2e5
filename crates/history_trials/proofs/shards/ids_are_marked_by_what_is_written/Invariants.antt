use Rattle.std.specs.Arc.{arc_value}
use Rattle.history_trials.proofs.shards.ids_are_marked_by_what_is_written.Given as goal

-- the history that was just made
abbrev pub ghosts-mark_rows : goal.ghosts-mark_rows
ghosts-mark_rows g a = record { history = arc_value a.history }
