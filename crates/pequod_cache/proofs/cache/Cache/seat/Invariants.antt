use Rattle.std.proofs.Common.{◌≡◌, ◌++◌}
use Rattle.pequod_cache.proofs.cache.Cache.seat.Given as goal

-- the clients so far stand before the passes that are left
abbrev pub invariant-loop-pass : goal.invariant-loop-pass
invariant-loop-pass g l =
    (goal.iterator-loop-pass g).can_next l.pass-iterator ×
    (goal.iterator-loop-pass g).is_finite l.pass-iterator ×
    (l.clients.items ++ l.pass-iterator.rest.items ≡ l.fn.passes.items)
