use Rattle.request_codec.proofs.FeedLemmas.{cuts_any}
use Rattle.request_codec.proofs.line_laws.cuts_any.Goals as goal

pub returns : goal.returns
returns c = cuts_any
