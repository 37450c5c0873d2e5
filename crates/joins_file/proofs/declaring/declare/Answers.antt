use Rattle.std.proofs.Common.{[], refl, arith}
use Rattle.protocol.specs.JoinsFile.{file_history}
use Rattle.joins_file.proofs.declaring.declare.Goals as goal

pub loop-line-init : goal.loop-line-init
unfolding file_history
loop-line-init c = record { declared = ([], refl, c.new-standing.ensures); few = omega arith }
