use Rattle.std.proofs.Common.{refl}
use Rattle.follow_node.proofs.Computes.{definitions_on_literals}
use Rattle.follow_node.proofs.fed_rows.lines_feed.Goals as goal

pub returns : goal.returns
unfolding definitions_on_literals
returns c = (refl, refl, refl, refl, refl, refl, refl, refl, refl)
