use Rattle.std.proofs.Common.{take, map}
use Rattle.protocol.specs.Replies.{entry_item}
use Rattle.request_codec.specs.Tokens.{Appends}
use Rattle.request_codec.proofs.entries.write_entries.Given as goal

abbrev pub invariant-loop-entry : goal.invariant-loop-entry
invariant-loop-entry l = Appends l.initial.writer l.writer (map entry_item (take l.entry-index l.entries))
