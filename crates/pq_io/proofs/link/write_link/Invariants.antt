-- So far the first `done` bytes were taken.
use Rattle.std.proofs.Common.{◌-◌, length}
use Rattle.pq_io.proofs.WriteProgress.{HasWritten}
use Rattle.pq_io.proofs.link.write_link.Given as goal

abbrev pub invariant-loop-done : goal.invariant-loop-done
invariant-loop-done g l =
    let before = l.initial.link in
    HasWritten l.bytes l.done (g.L.Link.taken before) (g.L.Link.taken l.link) (g.L.Link.write_faults before)
    (g.L.Link.write_faults l.link) (g.L.Link.left before) (g.L.Link.left l.link) (g.L.Link.read_faults before)
    (g.L.Link.read_faults l.link) (g.L.Link.borrows before) (g.L.Link.borrows l.link)

abbrev pub decreases-loop-done : goal.decreases-loop-done
decreases-loop-done g l = length l.bytes - l.done
