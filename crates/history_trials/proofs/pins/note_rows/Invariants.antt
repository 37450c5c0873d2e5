use Rattle.std.proofs.Common.{◌≡◌}
use Rattle.write_history.specs.Passes.{MayAppend}
use Rattle.write_history.specs.declared.known.Mark.TheVariants.{Noted}
use Rattle.history_trials.proofs.pins.note_rows.Given as goal

abbrev pub invariant-loop-next : goal.invariant-loop-next
invariant-loop-next g l = record {
  writer : MayAppend l.history l.writer;
  first : l.first.history ≡ l.history;
  first_noted : l.first.mark ≡ Noted l.one;
  second : l.second.history ≡ l.history;
  second_noted : l.second.mark ≡ Noted l.other;
}
