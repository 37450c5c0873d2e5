use Rattle.std.proofs.Common.{[], refl, arith}
use Rattle.request_codec.proofs.FeedLemmas.{cut_is_lines}
use Rattle.request_codec.proofs.line_laws.cuts_lines.Goals as goal

pub returns : goal.returns
returns c ended pieces cut feeds = cut_is_lines ended [] pieces cut feeds refl (omega arith)
