use Rattle.std.proofs.lemmas.Slice.Eq.{slice_eq-Decides}
use Rattle.semantics.proofs.PieceLemmas.{same_decides}
use Rattle.join_rows.proofs.need.are_same_keys.Goals as goal

pub returns : goal.returns
returns c = slice_eq-Decides same_decides c.args.keys.now c.args.others.now c.eq.result c.eq.ensures
