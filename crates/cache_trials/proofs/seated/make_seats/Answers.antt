use Rattle.std.proofs.Common.{ℕ, refl, sym, subst, arith}
use Rattle.pequod_cache.specs.Sitting.{AreOf, AreWriters}
use Rattle.cache_trials.proofs.seated.make_seats.Goals as goal

pub returns-clause-seats : goal.returns-clause-seats
returns-clause-seats c =
    let seats = c.in_ok-seats.seats in
    let are = c.in_ok-seats.ensures in
    record {
      named = refl;
      clients = subst (λ (n : ℕ). AreWriters seats.history n seats.clients.items) (sym are.clients.counted) are.clients;
      shards = are.shards;
      cells = subst (λ (n : ℕ). AreOf seats.history n seats.cells.items) (sym are.cells.counted) are.cells;
      some = omega (arith, are.cells.counted);
      few = omega (arith, are.cells.counted);
    }
