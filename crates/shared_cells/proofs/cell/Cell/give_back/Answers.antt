use Rattle.std.proofs.Common.{ℕ, sym, ap, ◌∙◌, subst}
use Rattle.semantics.specs.Histories.{IsPrefix}
use Rattle.cell_slots.specs.Slots.{IsRightFor}
use Rattle.shared_cells.specs.Cells.{CellView}
use Rattle.shared_cells.proofs.CellLemmas.{right_over_longer}
use Rattle.shared_cells.proofs.cell.Cell.give_back.Goals as goal

pub invariant_of-self : goal.invariant_of-self
invariant_of-self g c =
    let list = g.R.Reader.list in
    record {
      same_history = c.meet.ensures.goes_on.same_history ∙ c.self.invariant.same_history;
      right = record {
        right = subst (λ (at : ℕ). IsRightFor c.meet.new.pass.view at c.args.state) (sym (ap (λ (cell : CellView). cell.at) c.self.view_is))
            (right_over_longer (list c.args.reader.now) c.meet.new.pass.view c.args.self.now.at c.args.state
            (subst (IsPrefix (list c.args.reader.now)) (sym c.meet.ensures.met) c.meet.ensures.moves.kept) c.requires.right);
        ranked = c.requires.ranked ∙ sym (ap (λ (cell : CellView). cell.rank) c.self.view_is);
        just = c.requires.just ∙ sym (ap (λ (cell : CellView). cell.range) c.self.view_is);
      };
    }
