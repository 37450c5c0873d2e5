use Rattle.join_eval.proofs.MovesLemmas.{moves_refl}
use Rattle.shared_cells.proofs.part.note_handed.Goals as goal

pub returns-then-is_left : goal.returns-then-is_left
returns-then-is_left g c = moves_refl g.R.Reader.list g.R.Reader.floor g.R.Reader.went c.args.reader.now (g.met.R.Reader.went_refl c.args.reader.now)
