-- no try has found memory so far, and what was refused to the last is kept
use Rattle.std.proofs.Common.{◌≡◌, ◌<◌, true}
use Rattle.std.specs.Prelude.{is_some}
use Rattle.server.proofs.working.serve_patiently.Given as goal

abbrev pub invariant-loop : goal.invariant-loop
invariant-loop g l = (l.service ≡ l.fn.service) × (l.link ≡ l.fn.link) × (0 < l.counter → is_some l.refused ≡ true)
