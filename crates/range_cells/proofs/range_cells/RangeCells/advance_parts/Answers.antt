use Rattle.std.proofs.Common.{◌∙◌, arith}
use Rattle.growing_history.proofs.PrefixLemmas.{prefix_length}
use Rattle.base_shards.proofs.ReadingLemmas.{reads_on-refl, reads_on-trans}
use Rattle.range_cells.proofs.range_cells.RangeCells.advance_parts.Goals as goal

pub loop-number-init : goal.loop-number-init
loop-number-init g c = reads_on-refl c.args.pass.now

pub catch_up-requires-clause-same_history : goal.catch_up-requires-clause-same_history
catch_up-requires-clause-same_history g c = c.loop-number.invariant.same_history ∙ c.requires.same_history

pub catch_up-requires-clause-within : goal.catch_up-requires-clause-within
catch_up-requires-clause-within g c = omega (arith, c.requires.within, prefix_length c.args.pass.now.view c.loop-number.pass.view c.loop-number.invariant.begins)

pub returns-in_err-catch_up : goal.returns-in_err-catch_up
returns-in_err-catch_up g c = reads_on-trans c.args.pass.now c.loop-number.pass c.catch_up.new.pass c.loop-number.invariant c.catch_up.ensures

pub loop-number-preserved : goal.loop-number-preserved
loop-number-preserved g c = reads_on-trans c.args.pass.now c.loop-number.pass c.catch_up.new.pass c.loop-number.invariant c.catch_up.ensures
