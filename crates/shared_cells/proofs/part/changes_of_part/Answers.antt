use Rattle.std.proofs.lemmas.Result.{IfOk-at_ok}
use Rattle.join_eval.proofs.MovesLemmas.{moves_refl}
use Rattle.shared_cells.proofs.LayerLemmas.{moves_told}
use Rattle.shared_cells.proofs.part.changes_of_part.Goals as goal

pub returns-in_default-clause-moves : goal.returns-in_default-clause-moves
returns-in_default-clause-moves g c = moves_refl g.R.Reader.list g.R.Reader.floor g.R.Reader.went c.args.reader.now (g.met.R.Reader.went_refl c.args.reader.now)

pub returns-in_default-deref_mut-clause-moves : goal.returns-in_default-deref_mut-clause-moves
returns-in_default-deref_mut-clause-moves g c = moves_refl g.R.Reader.list g.R.Reader.floor g.R.Reader.went c.args.reader.now (g.met.R.Reader.went_refl c.args.reader.now)

pub changes_since-told-requires-clause-within : goal.changes_since-told-requires-clause-within
changes_since-told-requires-clause-within g c = rw c.start_noting-noted.ensures c.requires.within

pub changes_since-told-requires-clause-above : goal.changes_since-told-requires-clause-above
changes_since-told-requires-clause-above g c = rw c.start_noting-noted.ensures c.requires.above

pub changes_since-told-requires-clause-stands : goal.changes_since-told-requires-clause-stands
changes_since-told-requires-clause-stands g c = rw c.start_noting-noted.ensures c.requires.stands

pub returns-in-Ok-clause-told : goal.returns-in-Ok-clause-told
returns-in-Ok-clause-told g c = rw c.start_noting-noted.ensures at (IfOk-at_ok _ c.in-Ok.is c.changes_since-told.ensures.told)

pub returns-in-Ok-clause-moves : goal.returns-in-Ok-clause-moves
returns-in-Ok-clause-moves g c =
    moves_told g.R.Reader.list g.R.Reader.floor g.R.Reader.went c.args.reader.now c.start_noting-noted.new.self c.changes_since-told.new.reader c.note_told.new.self c.follow.new.reader
    (g.met.R.Reader.went_trans c.args.reader.now c.changes_since-told.new.reader c.note_told.new.self) c.start_noting-noted.ensures c.changes_since-told.ensures.moves c.note_told.ensures c.follow.ensures.reader

pub returns-in-Err-TooWide-clause-moves : goal.returns-in-Err-TooWide-clause-moves
returns-in-Err-TooWide-clause-moves g c =
    moves_told g.R.Reader.list g.R.Reader.floor g.R.Reader.went c.args.reader.now c.start_noting-noted.new.self c.changes_since-told.new.reader c.note_told.new.self c.follow.new.reader
    (g.met.R.Reader.went_trans c.args.reader.now c.changes_since-told.new.reader c.note_told.new.self) c.start_noting-noted.ensures c.changes_since-told.ensures.moves c.note_told.ensures c.follow.ensures.reader
