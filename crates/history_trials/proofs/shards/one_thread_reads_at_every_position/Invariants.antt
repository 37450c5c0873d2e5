use Rattle.std.specs.Arc.{arc_value}
use Rattle.history_trials.proofs.shards.one_thread_reads_at_every_position.Given as goal

-- the history that was just made
abbrev pub ghosts-read_rows : goal.ghosts-read_rows
ghosts-read_rows g a = record { history = arc_value a.history }
