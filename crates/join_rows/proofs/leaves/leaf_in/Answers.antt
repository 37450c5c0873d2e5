use Rattle.std.proofs.Common.{◌∙◌, []}
use Rattle.std.proofs.lemmas.List.{get_or_default}
use Rattle.join_rows.proofs.leaves.leaf_in.Goals as goal

pub returns : goal.returns
returns c = c.index-leaves-place.is ∙ get_or_default c.args.leaves.now c.args.place c.index-leaves-place.result [] c.requires
