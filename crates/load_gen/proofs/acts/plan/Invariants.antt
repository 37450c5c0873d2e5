use Rattle.std.proofs.Common.{◌≡◌, ◌+◌, ◌-◌, ◌++◌}
use Rattle.load_gen.specs.Plans.{acts_from, planned}
use Rattle.load_gen.proofs.acts.plan.Given as goal

abbrev pub invariant-loop-done : goal.invariant-loop-done
invariant-loop-done l = l.acts.items ++ acts_from l.users (l.done + 1) (l.steps - l.done) l.generator ≡ planned l.number l.steps l.users
