use Rattle.std.proofs.Common.{◌≡◌}
use Rattle.scan_core.specs.LettingGo.{LetsGo}
use Rattle.scan_core.proofs.contents.Core.let_go_of_former.Given as goal

-- of the cells so far some let go
abbrev pub invariant-loop-id : goal.invariant-loop-id
invariant-loop-id l = record { goes : LetsGo l.initial.self.history l.p l.initial.self.cells l.self.cells; same : l.self.history ≡ l.initial.self.history }
