use Rattle.std.proofs.Common.{◌≡◌, ◌+◌, ◌≤◌, ◌++◌, length, filter, not}
use Rattle.std.specs.Vec.{vec_len, vec_capacity}
use Rattle.std.specs.Vec.Iter.{into_iter_items, into_iter_len}
use Rattle.lazy_log.specs.Pending.{meets_held}
use Rattle.lazy_log.specs.Held.{slots_of}
use Rattle.lazy_log.proofs.log.part.Given as goal

abbrev pub invariant-loop-one : goal.invariant-loop-one
invariant-loop-one l = record {
  taken : l.taken.items ++ slots_of (filter (λ n. meets_held n.held l.range) (into_iter_items l.one-iterator))
      ≡ l.initial.taken.items ++ slots_of (filter (λ n. meets_held n.held l.range) (into_iter_items l.initial.one-iterator));
  left : l.left.items ++ filter (λ n. not (meets_held n.held l.range)) (into_iter_items l.one-iterator)
      ≡ l.initial.left.items ++ filter (λ n. not (meets_held n.held l.range)) (into_iter_items l.initial.one-iterator);
  taken_fits : vec_len l.taken + into_iter_len l.one-iterator ≤ vec_capacity l.taken;
  left_fits : vec_len l.left + into_iter_len l.one-iterator ≤ vec_capacity l.left;
  long : into_iter_len l.one-iterator ≡ length (into_iter_items l.one-iterator);
}
