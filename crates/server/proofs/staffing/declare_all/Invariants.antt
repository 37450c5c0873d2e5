-- the joins so far are declared, and stand before those that are left
use Rattle.std.proofs.Common.{◌≡◌, ◌++◌}
use Rattle.server.specs.Staffs.{AreStaff}
use Rattle.server.proofs.staffing.declare_all.Given as goal

abbrev pub invariant-loop-join : goal.invariant-loop-join
invariant-loop-join g l = record {
  next : (goal.iterator-loop-join g).can_next l.join-iterator;
  finite : (goal.iterator-loop-join g).is_finite l.join-iterator;
  staff : AreStaff g.N.Naming.history l.yielded l.first l.others;
  left : l.yielded ++ l.join-iterator.rest.items ≡ l.fn.joins.items;
}
