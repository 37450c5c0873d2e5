use Rattle.std.specs.Arc.{arc_value}
use Rattle.history_trials.proofs.settling.a_pinned_pass_reads_what_it_may_ask_for.Given as goal

-- the history that was just made
abbrev pub ghosts-read_early : goal.ghosts-read_early
ghosts-read_early g a = record { history = arc_value a.history }
