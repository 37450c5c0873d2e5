use Rattle.std.proofs.Common.{◌∙◌, arith}
use Rattle.history_trials.proofs.pins.note_at.Goals as goal

pub note-requires-clause-noted : goal.note-requires-clause-noted
note-requires-clause-noted g c = (c.args.last, c.look-length.ensures.goes_on.same_mark ∙ c.requires.noted, omega arith)
