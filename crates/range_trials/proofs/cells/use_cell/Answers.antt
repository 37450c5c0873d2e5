use Rattle.std.proofs.Common.{◌≡◌}
use Rattle.cell_table.specs.Moves.{IsLent}
use Rattle.cell_table.proofs.LendLemmas.{lent_slot, match_at}
use Rattle.range_trials.proofs.cells.use_cell.Goals as goal

pub give_back-requires : goal.give_back-requires
give_back-requires g c =
    let before = c.args.table.now.holdings in
    let after = c.lend.new.self.holdings in
    let part = c.read_range-range.result in
    lent_slot before after c.args.id 1 0 7 part c.in-Some.state (match_at c.in_ok-state.field-0 c.in-Some.state (c.lend.new.self ≡ c.args.table.now) (IsLent before after c.args.id 1 0 7 part) c.in-Some.is c.in_ok-state.ensures.lent)
