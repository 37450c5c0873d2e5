use Rattle.std.proofs.Common.{◌∙◌}
use Rattle.protocol.specs.Replies.{entry_item}
use Rattle.request_codec.proofs.TokenLemmas.{print-item}
use Rattle.request_codec.proofs.entries.entry_text.Goals as goal

pub returns : goal.returns
returns c =
    let empty = c.new-writer.ensures.before ∙ c.clear.ensures.items in
    c.into_inner.ensures.items ∙ print-item c.new-writer.result c.write_entry.new.writer (entry_item c.args.entry.now) empty c.new-writer.ensures.tokens c.in_ok-write_entry.ensures
