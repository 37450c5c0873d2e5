use Rattle.std.proofs.Common.{◌≡◌, take, sym, ◌∙◌}
use Rattle.updater_index.specs.Indexed.{Grows}
use Rattle.updater_index.proofs.IndexLemmas.{add_more, grows-with, on_err_always}
use Rattle.updater_index.proofs.registered.Registered.add_all.Goals as goal

pub returns-in_err-add-clause-err : goal.returns-in_err-add-clause-err
returns-in_err-add-clause-err c =
    on_err_always c.from_residual.result (grows-with c.args.self.now c.add.new.self c.args.id (take c.loop-range.range-index c.args.ranges.now) c.requires (c.in_err-add.ensures.err ∙ c.loop-range.invariant))

pub loop-range-preserved : goal.loop-range-preserved
loop-range-preserved c =
    add_more c.args.self.now c.loop-range.self c.add.new.self c.args.id c.args.ranges.now c.loop-range.range-index c.range-item.result c.requires c.loop-range-test.true c.range-item.is c.loop-range.invariant c.in_ok-add.ensures.ok
