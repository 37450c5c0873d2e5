use Rattle.std.proofs.Common.{◌∷◌, ◌++◌, [], ◌∙◌, ap}
use Rattle.protocol.specs.Rows.{list_of}
use Rattle.protocol.specs.Replies.{reply_items, reply_text}
use Rattle.request_codec.specs.Plain.{plain_reply}
use Rattle.request_codec.proofs.TokenLemmas.{print-item}
use Rattle.request_codec.proofs.writing.write_line.Goals as goal

pub returns : goal.returns
unfolding reply_text
returns c =
    let array = list_of (reply_items (plain_reply c.args.reply.now)) in
    let empty = c.new-writer.ensures.before ∙ c.in_ok-with_capacity.ensures.items in
    let text = print-item c.new-writer.result c.write_reply.new.writer array empty c.new-writer.ensures.tokens c.in_ok-write_reply.ensures in
    c.in_ok-push.ensures.items ∙ ap (λ t. t ++ 10 ∷ []) (c.into_inner-line.ensures.items ∙ text)
