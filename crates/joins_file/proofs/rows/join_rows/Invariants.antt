use Rattle.std.proofs.Common.{◌≡◌, take, zip}
use Rattle.std.specs.Prelude.{flat_map}
use Rattle.semantics.specs.States.{ranks_of}
use Rattle.protocol.specs.JoinsFile.{join_row}
use Rattle.joins_file.proofs.rows.join_rows.Given as goal

abbrev pub invariant-loop-number : goal.invariant-loop-number
invariant-loop-number l = l.rows.items ≡ flat_map join_row (take l.number (zip (ranks_of l.joins.standing) l.joins.standing))
