use Rattle.protocol.specs.Replies.{reply_items}
use Rattle.request_codec.specs.Plain.{plain_reply}
use Rattle.request_codec.proofs.TokenLemmas.{Appends-list_of}
use Rattle.request_codec.proofs.writing.write_reply.Goals as goal

pub returns : goal.returns
returns c =
    Appends-list_of c.end_array.result c.args.writer.now c.begin_array.new.self c.write_items.new.writer c.end_array.new.self (reply_items (plain_reply c.args.reply.now))
    c.in_ok-begin_array.ensures.ok c.in_ok-begin_array.ensures.room.0 c.in_ok-write_items.ensures c.end_array.ensures
