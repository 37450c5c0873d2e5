use Rattle.std.proofs.Common.{◌∷◌, ◌++◌, [], ◌∙◌, ap}
use Rattle.protocol.specs.Rows.{list_of}
use Rattle.protocol.specs.Replies.{entries_items, reply_text}
use Rattle.request_codec.proofs.TokenLemmas.{print-item}
use Rattle.request_codec.proofs.entries.write_entries_line.Goals as goal

pub returns : goal.returns
unfolding reply_text
returns c =
    let array = list_of (entries_items c.args.from c.args.position c.args.entries.now) in
    let empty = c.new-writer.ensures.before ∙ c.in_ok-with_capacity.ensures.items in
    let text = print-item c.new-writer.result c.write_entries_array.new.writer array empty c.new-writer.ensures.tokens c.in_ok-write_entries_array.ensures in
    c.in_ok-push.ensures.items ∙ ap (λ t. t ++ 10 ∷ []) (c.into_inner-line.ensures.items ∙ text)
