use Rattle.std.proofs.Common.{sym, subst}
use Rattle.shared_cells.specs.Cells.{CellView}
use Rattle.range_cells.specs.Turns.{AdvancesLittle}
use Rattle.range_cells.proofs.stack.advance_by.Goals as goal

pub returns-clause-little : goal.returns-clause-little
returns-clause-little g c =
    let list = g.R.Reader.list in
    let floor = g.R.Reader.floor in
    let noting = c.start_noting-since in
    let advanced = c.advance_to-advanced in
    let little : AdvancesLittle (list noting.new.self) (floor noting.new.self) c.args.p c.args.rank advanced.result c.args.cell.now advanced.new.self c.args.steps.now advanced.new.steps =
    record { little = advanced.ensures.little; cost = advanced.ensures.cost } in
    subst (λ (v : CellView). AdvancesLittle (list c.args.reader.now) (floor c.args.reader.now) c.args.p c.args.rank advanced.result c.args.cell.now v c.args.steps.now advanced.new.steps) (sym c.follow.ensures.same)
    (subst (λ r. AdvancesLittle (list r) (floor r) c.args.p c.args.rank advanced.result c.args.cell.now advanced.new.self c.args.steps.now advanced.new.steps) noting.ensures little)
