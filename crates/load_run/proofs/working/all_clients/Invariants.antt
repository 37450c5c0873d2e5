use Rattle.std.proofs.Common.{◌≡◌, map, Ok}
use Rattle.load_run.proofs.working.all_clients.Given as goal

abbrev pub invariant-loop-end : goal.invariant-loop-end
invariant-loop-end g l = l.yielded ≡ map Ok l.clients.items
