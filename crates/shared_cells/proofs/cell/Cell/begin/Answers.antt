use Rattle.std.proofs.Common.{ℕ, sym, ap, ◌∙◌, subst}
use Rattle.semantics.specs.Histories.{IsPrefix}
use Rattle.growing_history.proofs.PrefixLemmas.{prefix_trans}
use Rattle.join_eval.proofs.MovesLemmas.{moves_trans}
use Rattle.kept_ranges.specs.Sound.{KeptRange}
use Rattle.cell_slots.specs.Slots.{StandsAs}
use Rattle.shared_cells.specs.Cells.{CellView}
use Rattle.shared_cells.proofs.CellLemmas.{new_is_right}
use Rattle.shared_cells.proofs.cell.Cell.begin.Goals as goal

pub join_at-join-requires-clause-stands : goal.join_at-join-requires-clause-stands
join_at-join-requires-clause-stands g c =
    let stands = c.requires.stands in (
      stands.0,
      stands.1,
      subst (λ (n : ℕ). StandsAs (g.R.Reader.list c.args.reader.now) c.args.p n stands.0 stands.1) (sym (ap (λ (cell : CellView). cell.at) c.self.view_is)) stands.2,
    )

pub returns-clause-right : goal.returns-clause-right
returns-clause-right g c =
    let list = g.R.Reader.list in
    let same = c.meet.ensures.same_place in
    new_is_right (list c.args.reader.now) c.meet.new.self c.self.inside.at c.self.inside.rank c.in_ok-range.field-0 c.in_ok-join.field-0 c.new.result
    (subst (IsPrefix (list c.args.reader.now)) (sym c.meet.ensures.met)
    (prefix_trans (list c.args.reader.now) (list c.join_at-join.new.self) (list c.meet.new.reader) c.join_at-join.ensures.moves.kept c.meet.ensures.moves.kept))
    (same.at ∙ sym (ap (λ (cell : CellView). cell.at) c.self.view_is)) (same.rank ∙ sym (ap (λ (cell : CellView). cell.rank) c.self.view_is))
    (same.range ∙ sym (ap (λ (cell : CellView). cell.range) c.self.view_is) ∙ sym c.in_ok-range.ensures) c.in_ok-join.ensures.declared c.new.ensures

pub returns-clause-empty : goal.returns-clause-empty
returns-clause-empty g c = ap (λ (s : KeptRange). s.kept.needs) c.new.ensures

pub returns-clause-moves : goal.returns-clause-moves
returns-clause-moves g c =
    moves_trans g.R.Reader.list g.R.Reader.floor g.R.Reader.went c.args.reader.now c.join_at-join.new.self c.meet.new.reader
    (g.met.R.Reader.went_trans c.args.reader.now c.join_at-join.new.self c.meet.new.reader) c.join_at-join.ensures.moves c.meet.ensures.moves
