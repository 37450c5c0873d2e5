use Rattle.std.proofs.Common.{◌∷◌}
use Rattle.serde_json.specs.Data.{string}
use Rattle.protocol.specs.Replies.{value_items}
use Rattle.request_codec.proofs.TokenLemmas.{Appends-list_of}
use Rattle.request_codec.proofs.writing.write_change.Goals as goal

pub returns : goal.returns
returns c =
    Appends-list_of c.end_array.result c.args.writer.now c.begin_array.new.self c.write_change_items.new.writer c.end_array.new.self (string c.args.change.now.key ∷ value_items c.args.change.now.value)
    c.in_ok-begin_array.ensures.ok c.in_ok-begin_array.ensures.room.0 c.in_ok-write_change_items.ensures c.end_array.ensures
