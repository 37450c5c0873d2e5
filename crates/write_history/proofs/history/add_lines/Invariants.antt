use Rattle.std.proofs.Common.{◌≡◌, ◌++◌, replicate}
use Rattle.write_history.specs.Lines.{lines}
use Rattle.write_history.proofs.history.add_lines.Given as goal

-- so many lines are added
abbrev pub invariant-loop-line : goal.invariant-loop-line
invariant-loop-line l = l.words.items ≡ l.fn.words.items ++ lines (replicate l._line l.word)
