use Rattle.std.proofs.Common.{take, map}
use Rattle.protocol.specs.Replies.{pair_item}
use Rattle.request_codec.specs.Tokens.{Appends}
use Rattle.request_codec.proofs.writing.write_pairs.Given as goal

abbrev pub invariant-loop-pair : goal.invariant-loop-pair
invariant-loop-pair l = Appends l.initial.writer l.writer (map pair_item (take l.pair-index l.pairs))
