use Rattle.std.proofs.Common.{◌≡◌, ℕ, ◌≤◌, Option, IfSome, Some, None, arith}
use Rattle.scan_core.proofs.cell_events.advance_to.Goals as goal

-- at floor 0 nothing stands below it
from_zero : (floor : ℕ) (o : Option ℕ) → floor ≡ 0 → IfSome o (λ q. floor ≤ q)
from_zero floor None zero = tt
from_zero floor (Some q) zero = omega (arith, zero)

pub reach-requires-clause-from : goal.reach-requires-clause-from
reach-requires-clause-from g c = from_zero (g.R.Reader.floor c.args.reader.now) c.args.state.now.position c.requires.above

pub returns-clause-little : goal.returns-clause-little
returns-clause-little g c = λ q same stands behind bare. c.in_ok-reach.ensures.little q stands behind bare
