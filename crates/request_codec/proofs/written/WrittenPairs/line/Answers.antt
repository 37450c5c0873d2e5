use Rattle.std.proofs.Common.{ap, ◌∙◌}
use Rattle.semantics.specs.Answers.{pairs}
use Rattle.protocol.specs.Replies.{answered, reply_text}
use Rattle.request_codec.specs.Written.{WrittenView}
use Rattle.request_codec.proofs.written.WrittenPairs.line.Goals as goal

pub returns : goal.returns
returns c = c.as_slice.ensures.value ∙ c.self.invariant ∙ ap (λ (v : WrittenView). reply_text (answered (pairs v.position v.pairs))) c.self.view_is
