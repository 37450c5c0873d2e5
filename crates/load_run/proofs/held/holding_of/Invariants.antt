use Rattle.std.proofs.Common.{◌≡◌, take}
use Rattle.std.specs.Prelude.{sum_by}
use Rattle.load_gen.specs.Lines.{pair_bytes}
use Rattle.load_run.proofs.held.holding_of.Given as goal

abbrev pub invariant-loop-pair : goal.invariant-loop-pair
invariant-loop-pair l = l.bytes ≡ sum_by pair_bytes (take l.pair-index l.pairs)
