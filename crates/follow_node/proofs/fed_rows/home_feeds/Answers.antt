use Rattle.std.proofs.Common.{refl}
use Rattle.follow_node.proofs.Computes.{definitions_on_literals}
use Rattle.follow_node.proofs.fed_rows.home_feeds.Goals as goal

pub returns : goal.returns
unfolding definitions_on_literals
returns c = refl
