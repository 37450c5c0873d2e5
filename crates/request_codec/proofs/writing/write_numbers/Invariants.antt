use Rattle.std.proofs.Common.{take, map}
use Rattle.protocol.specs.Rows.{whole_number}
use Rattle.request_codec.specs.Tokens.{Appends}
use Rattle.request_codec.proofs.writing.write_numbers.Given as goal

abbrev pub invariant-loop-number : goal.invariant-loop-number
invariant-loop-number l = Appends l.initial.writer l.writer (map whole_number (take l.number-index l.numbers))
