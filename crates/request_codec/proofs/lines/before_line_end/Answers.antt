use Rattle.std.proofs.Common.{arith}
use Rattle.request_codec.proofs.FeedLemmas.{unwrap_or-position}
use Rattle.request_codec.proofs.lines.before_line_end.Goals as goal

pub returns : goal.returns
returns c = grind (arith, unwrap_or-position)
