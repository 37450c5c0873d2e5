use Rattle.std.proofs.Common.{subst}
use Rattle.join_eval.specs.Moves.{Moves}
use Rattle.join_eval.proofs.MovesLemmas.{moves_refl, moves_trans}
use Rattle.shared_cells.proofs.part.hand_part.Goals as goal

pub returns-in_default-clause-moves : goal.returns-in_default-clause-moves
returns-in_default-clause-moves g c = moves_refl g.R.Reader.list g.R.Reader.floor g.R.Reader.went c.args.reader.now (g.met.R.Reader.went_refl c.args.reader.now)

pub returns-in_default-deref_mut-clause-moves : goal.returns-in_default-deref_mut-clause-moves
returns-in_default-deref_mut-clause-moves g c = moves_refl g.R.Reader.list g.R.Reader.floor g.R.Reader.went c.args.reader.now (g.met.R.Reader.went_refl c.args.reader.now)

pub hand-handed-requires-clause-within : goal.hand-handed-requires-clause-within
hand-handed-requires-clause-within g c = rw c.start_noting-since.ensures c.requires.within

pub hand-handed-requires-clause-above : goal.hand-handed-requires-clause-above
hand-handed-requires-clause-above g c = rw c.start_noting-since.ensures c.requires.above

pub hand-handed-requires-clause-stands : goal.hand-handed-requires-clause-stands
hand-handed-requires-clause-stands g c = rw c.start_noting-since.ensures c.requires.stands

pub returns-clause-handed : goal.returns-clause-handed
returns-clause-handed g c = rw c.start_noting-since.ensures at c.hand-handed.ensures.handed

pub returns-clause-moves : goal.returns-clause-moves
returns-clause-moves g c =
    let list = g.R.Reader.list in let floor = g.R.Reader.floor in let went = g.R.Reader.went in
    let handed : Moves list floor went c.args.reader.now c.hand-handed.new.reader = subst (λ r. Moves list floor went r c.hand-handed.new.reader) c.start_noting-since.ensures c.hand-handed.ensures.moves in
    let used : Moves list floor went c.hand-handed.new.reader c.note_handed.new.reader = subst (λ r. Moves list floor went r c.note_handed.new.reader) c.follow.ensures.reader c.note_handed.ensures in
    moves_trans list floor went c.args.reader.now c.hand-handed.new.reader c.note_handed.new.reader (g.met.R.Reader.went_trans c.args.reader.now c.hand-handed.new.reader c.note_handed.new.reader) handed used
