use Rattle.std.proofs.Common.{◌≡◌, ◌≤◌, length, IfSome, refl, rules, sym, subst}
use Rattle.write_history.specs.Marks.{reach}
use Rattle.write_history.specs.Passes.{PassView}
use Rattle.semantics.specs.Histories.{History}
use Rattle.cell_slots.specs.Slots.{IsRankAt}
use Rattle.shared_cells.specs.Advancing.{AdvancesCell}
use Rattle.shared_cells.specs.Cells.{IsWideCell}
use Rattle.range_cells.specs.Turns.{AdvancesLittle}
use Rattle.range_cells.proofs.TurnLemmas.{reaches_to}
use Rattle.range_cells.proofs.range_cells.RangeCells.advance_cell.Goals as goal

pub advance_to-advanced-requires-clause-rank : goal.advance_to-advanced-requires-clause-rank
advance_to-advanced-requires-clause-rank g c = subst (λ (v : PassView). IsRankAt v.view c.args.p c.args.cell.now.at c.args.rank) (sym c.stack-stack.ensures.pass) c.requires.rank

pub advance_to-advanced-requires-clause-above : goal.advance_to-advanced-requires-clause-above
advance_to-advanced-requires-clause-above g c = subst (λ (v : PassView). reach v.mark ≤ c.args.p) (sym c.stack-stack.ensures.pass) (reaches_to c.args.pass.now c.args.p c.requires.pinned)

pub returns-in-Ok-clause-within : goal.returns-in-Ok-clause-within
returns-in-Ok-clause-within g c =
    let within = subst (λ (h : History). IfSome c.position-position.result (λ q. q ≤ length h)) c.advance_to-advanced.ensures.met c.position-position.ensures.within in
    search (rules, within)

pub returns-in-Ok-clause-advances : goal.returns-in-Ok-clause-advances
returns-in-Ok-clause-advances g c =
    let advances = subst (λ (v : PassView). AdvancesCell (reach v.mark) c.args.p c.args.rank c.advance_to-advanced.result c.args.cell.now c.advance_to-advanced.new.cell) c.stack-stack.ensures.pass c.advance_to-advanced.ensures.advances in
    let ended = subst (λ r. AdvancesCell (reach c.args.pass.now.mark) c.args.p c.args.rank r c.args.cell.now c.advance_to-advanced.new.cell) c.in-Ok.is advances in
    record { advanced = ended.advanced; left = ended.left; failed = tt }

pub returns-in-Err-TooWide-clause-told : goal.returns-in-Err-TooWide-clause-told
returns-in-Err-TooWide-clause-told g c =
    let wide : IsWideCell c.args.self.now.most c.stack-stack.result.pass.view c.args.p c.advance_to-advanced.new.cell = rw c.in-Err-TooWide.field-0-is at c.in-Err-TooWide.ensures.wide in
    (refl, subst (λ (v : PassView). IsWideCell c.args.self.now.most v.view c.args.p c.advance_to-advanced.new.cell) c.stack-stack.ensures.pass wide)

pub returns-in-Err-TooWide-clause-advances : goal.returns-in-Err-TooWide-clause-advances
returns-in-Err-TooWide-clause-advances g c =
    let ended = subst (λ r. AdvancesCell (reach c.stack-stack.result.pass.mark) c.args.p c.args.rank r c.args.cell.now c.advance_to-advanced.new.cell) c.in-Err-TooWide.is c.advance_to-advanced.ensures.advances in
    record { advanced = λ same. tt; left = ended.left; failed = ended.failed }

pub returns-in-Err-OutOfMemory-clause-advances : goal.returns-in-Err-OutOfMemory-clause-advances
returns-in-Err-OutOfMemory-clause-advances g c =
    let ended = subst (λ r. AdvancesCell (reach c.stack-stack.result.pass.mark) c.args.p c.args.rank r c.args.cell.now c.advance_to-advanced.new.cell) c.in-Err-OutOfMemory.is c.advance_to-advanced.ensures.advances in
    record { advanced = λ same. tt; left = ended.left; failed = ended.failed }

-- ---- where the ranges of the needs are bare

pub returns-in-Ok-clause-little : goal.returns-in-Ok-clause-little
returns-in-Ok-clause-little g c =
    let advanced = c.advance_to-advanced in
    let little =
    subst (λ (v : PassView). AdvancesLittle v.view (reach v.mark) c.args.p c.args.rank advanced.result c.args.cell.now advanced.new.cell c.args.steps.now advanced.new.steps) c.stack-stack.ensures.pass advanced.ensures.little in
    let ended =
    subst (λ r. AdvancesLittle c.args.pass.now.view (reach c.args.pass.now.mark) c.args.p c.args.rank r c.args.cell.now advanced.new.cell c.args.steps.now advanced.new.steps) c.in-Ok.is little in
    record { little = ended.little; cost = ended.cost }

pub returns-in-Err-TooWide-clause-little : goal.returns-in-Err-TooWide-clause-little
returns-in-Err-TooWide-clause-little g c = record { little = λ s q can. tt; cost = λ s q can. tt }

pub returns-in-Err-OutOfMemory-clause-little : goal.returns-in-Err-OutOfMemory-clause-little
returns-in-Err-OutOfMemory-clause-little g c = record { little = λ s q can. tt; cost = λ s q can. tt }
