-- One more write adds the bytes that it took.
use Rattle.std.proofs.Common.{arith, length-drop, ◌∙◌}
use Rattle.pq_io.proofs.StreamLemmas.{Took-take, slice_from}
use Rattle.pq_io.proofs.link.write_link.Goals as goal

pub loop-done-preserved : goal.loop-done-preserved
loop-done-preserved g c =
    let so_far = c.loop-done.invariant in
    let wrote = c.in_ok-done.ensures in
    let took = rw (slice_from c.loop-done.done c.args.bytes.now) at wrote.bytes in
    record {
      within = omega (arith, wrote.bound, so_far.within, length-drop c.loop-done.done c.args.bytes.now);
      took = Took-take _ _ _ c.args.bytes.now c.loop-done.done c.in_ok-done.field-0 so_far.took took;
      same_write_faults = wrote.cause.kept ∙ so_far.same_write_faults;
      same_left = wrote.same_left ∙ so_far.same_left;
      same_read_faults = wrote.same_faults ∙ so_far.same_read_faults;
      same_borrows = wrote.same_borrows ∙ so_far.same_borrows;
    }
