use Rattle.std.proofs.Common.{take, map}
use Rattle.protocol.specs.Replies.{change_item}
use Rattle.request_codec.specs.Tokens.{Appends}
use Rattle.request_codec.proofs.writing.write_changes.Given as goal

abbrev pub invariant-loop-change : goal.invariant-loop-change
invariant-loop-change l = Appends l.initial.writer l.writer (map change_item (take l.change-index l.changes))
