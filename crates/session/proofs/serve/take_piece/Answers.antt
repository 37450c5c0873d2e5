-- One line more of the piece.
use Rattle.std.proofs.Common.{refl, ◌∙◌, arith}
use Rattle.session.proofs.PieceLemmas.{with_first, with_more_of_piece, ends_with_rest, within_piece}
use Rattle.session.proofs.serve.take_piece.Goals as goal

pub loop-taken-init : goal.loop-taken-init
loop-taken-init g c = record {
  within = omega arith;
  served = with_first _ _ c.args.piece.now _ c.args.lines.now.line;
  open_line = c.requires.open;
  line = c.requires.line;
  same_number = refl;
  same_write_faults = refl;
  same_left = refl;
  same_read_faults = refl;
  same_borrows = refl;
}

pub loop-taken-preserved : goal.loop-taken-preserved
loop-taken-preserved g c =
    let so_far = c.loop-taken.invariant in
    let one = c.in-Ok.ensures in
    record {
      within = within_piece c.args.piece.now c.loop-taken.taken c.in-Ok.count so_far.within one.count.1;
      served =
          with_more_of_piece _ _ _ _ _ c.args.lines.now.line c.args.piece.now c.loop-taken.lines.line _ c.loop-taken.taken c.in-Ok.count _ _ _
          so_far.same_number so_far.served one.served;
      open_line = one.open;
      line = one.line;
      same_number = one.same_number ∙ so_far.same_number;
      same_write_faults = one.kept (λ e. cc) ∙ so_far.same_write_faults;
      same_left = one.same_left ∙ so_far.same_left;
      same_read_faults = one.same_read_faults ∙ so_far.same_read_faults;
      same_borrows = one.same_borrows ∙ so_far.same_borrows;
    }

pub returns-in-Err-clause-served : goal.returns-in-Err-clause-served
returns-in-Err-clause-served g c =
    let so_far = c.loop-taken.invariant in
    ends_with_rest c.in-Err.end _ _ _ _ _ c.args.lines.now.line c.args.piece.now c.loop-taken.lines.line c.loop-taken.taken _ _ _ _
    so_far.same_number so_far.served c.in-Err.ensures.served
