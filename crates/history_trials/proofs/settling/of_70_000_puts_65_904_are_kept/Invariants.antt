use Rattle.std.specs.Arc.{arc_value}
use Rattle.history_trials.proofs.settling.of_70_000_puts_65_904_are_kept.Given as goal

-- the history that was just made
abbrev pub ghosts-put_70_000 : goal.ghosts-put_70_000
ghosts-put_70_000 g a = record { history = arc_value a.history }
