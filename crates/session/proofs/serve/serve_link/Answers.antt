-- One read more, and each end.
use Rattle.std.proofs.Common.{◌≡◌, [], take, refl, sym, ap, ◌∙◌, subst, arith}
use Rattle.request_codec.specs.Feeding.{UnderWay}
use Rattle.session.specs.Serving.{IsShortLine}
use Rattle.session.proofs.ReadLemmas.{given_first, given_more, given_ends, given_last, given_read_fault, given_spent}
use Rattle.session.proofs.serve.serve_link.Goals as goal

pub loop-init : goal.loop-init
loop-init g c =
    let empty : c.in-Ok.lines.line ≡ [] = ap (λ (u : UnderWay). u.line) c.in-Ok.ensures in
    record {
      served = given_first _ _ _ _ c.in-Ok.lines.line empty;
      open_line = ap (λ (u : UnderWay). u.ended) c.in-Ok.ensures;
      line = subst IsShortLine (sym empty) (record { no_feed = refl; short = omega arith });
      same_number = refl;
      same_read_faults = refl;
      same_write_faults = refl;
      same_borrows = refl;
    }

pub loop-preserved : goal.loop-preserved
loop-preserved g c =
    let so_far = c.loop.invariant in
    let read = c.in-Ok-read.ensures in
    let piece = c.in-Ok-take_piece.ensures in
    record {
      served =
          given_more c.loop.counter _ _ _ _ _ _ _ _ _ _ _ _ _ c.loop.lines.line (take c.in-Ok-read.count c.read.new.into) _
          so_far.same_number read.same_taken piece.same_left (omega (arith, read.bound.1, c.in-Ok-read.count-test.1)) so_far.served read.bytes piece.served;
      open_line = piece.open;
      line = piece.line;
      same_number = piece.same_number ∙ so_far.same_number;
      same_read_faults = piece.same_read_faults ∙ read.cause.kept ∙ so_far.same_read_faults;
      same_write_faults = piece.kept (λ e. cc) ∙ read.same_faults ∙ so_far.same_write_faults;
      same_borrows = piece.same_borrows ∙ read.same_borrows ∙ so_far.same_borrows;
    }

pub returns-in-Ok-eq0-clause-served : goal.returns-in-Ok-eq0-clause-served
returns-in-Ok-eq0-clause-served g c =
    let so_far = c.loop.invariant in
    let read = c.in-Ok-eq0.ensures in
    let last = c.serve_last.ensures in
    given_last c.serve_last.result c.loop.counter _ _ _ _ _ _ _ _ _ _ _ _ _ c.loop.lines.line c.line.result.now c.read.new.into c.in-Ok-eq0.field-0
    so_far.same_number read.same_taken last.same_left c.line.ensures.line (let h = c.in-Ok-eq0.field-0-test in h) so_far.served read.bytes last.served

pub returns-in-Err-take_piece-clause-served : goal.returns-in-Err-take_piece-clause-served
returns-in-Err-take_piece-clause-served g c =
    let so_far = c.loop.invariant in
    let read = c.in-Ok-read.ensures in
    let piece = c.in-Err-take_piece.ensures in
    given_ends c.in-Err-take_piece.end c.loop.counter _ _ _ _ _ _ _ _ _ _ _ _ _ c.loop.lines.line (take c.in-Ok-read.count c.read.new.into)
    so_far.same_number read.same_taken piece.same_left so_far.served read.bytes piece.served

pub returns-in-Err-read-clause-served : goal.returns-in-Err-read-clause-served
returns-in-Err-read-clause-served g c =
    let so_far = c.loop.invariant in
    let read = c.in-Err-read.ensures in
    given_read_fault c.loop.counter _ _ _ _ _ _ _ _ _ c.loop.lines.line so_far.line read.same_taken read.bytes so_far.served

pub returns-clause-served : goal.returns-clause-served
returns-clause-served g c =
    let so_far = c.loop.invariant in
    given_spent c.loop.counter _ _ _ _ _ _ _ c.loop.lines.line so_far.line c.loop-test.false so_far.served
