use Rattle.follow_node.proofs.LinesFeed.{lines_feed}
use Rattle.follow_node.proofs.fed_law.lines_feed_view.Goals as goal

pub returns : goal.returns
returns c = lines_feed
