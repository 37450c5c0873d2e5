use Rattle.std.proofs.Common.{subst}
use Rattle.join_eval.specs.Moves.{Moves}
use Rattle.join_eval.proofs.MovesLemmas.{moves_refl, moves_trans}
use Rattle.shared_cells.proofs.part.read_cell.Goals as goal

pub returns-in_default-clause-moves : goal.returns-in_default-clause-moves
returns-in_default-clause-moves g c = moves_refl g.R.Reader.list g.R.Reader.floor g.R.Reader.went c.args.reader.now (g.met.R.Reader.went_refl c.args.reader.now)

pub returns-in_default-deref_mut-clause-moves : goal.returns-in_default-deref_mut-clause-moves
returns-in_default-deref_mut-clause-moves g c = moves_refl g.R.Reader.list g.R.Reader.floor g.R.Reader.went c.args.reader.now (g.met.R.Reader.went_refl c.args.reader.now)

pub serve-found-requires-clause-within : goal.serve-found-requires-clause-within
serve-found-requires-clause-within g c = rw c.start_noting-since.ensures c.requires.within

pub serve-found-requires-clause-above : goal.serve-found-requires-clause-above
serve-found-requires-clause-above g c = rw c.start_noting-since.ensures c.requires.above

pub serve-found-requires-clause-stands : goal.serve-found-requires-clause-stands
serve-found-requires-clause-stands g c = rw c.start_noting-since.ensures c.requires.stands

pub returns-clause-output : goal.returns-clause-output
returns-clause-output g c = rw c.start_noting-since.ensures at c.serve-found.ensures.output

pub returns-clause-moves : goal.returns-clause-moves
returns-clause-moves g c =
    let list = g.R.Reader.list in let floor = g.R.Reader.floor in let went = g.R.Reader.went in
    let served : Moves list floor went c.args.reader.now c.serve-found.new.reader = subst (λ r. Moves list floor went r c.serve-found.new.reader) c.start_noting-since.ensures c.serve-found.ensures.moves in
    let used : Moves list floor went c.serve-found.new.reader c.note_use.new.self = subst (λ r. Moves list floor went r c.note_use.new.self) c.follow.ensures.reader c.note_use.ensures in
    moves_trans list floor went c.args.reader.now c.serve-found.new.reader c.note_use.new.self (g.met.R.Reader.went_trans c.args.reader.now c.serve-found.new.reader c.note_use.new.self) served used
