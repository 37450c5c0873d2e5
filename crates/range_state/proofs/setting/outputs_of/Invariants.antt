use Rattle.std.proofs.Common.{◌≡◌, map, take}
use Rattle.range_state.specs.Valued.{ValuedApplication}
use Rattle.range_state.proofs.setting.outputs_of.Given as goal

abbrev pub invariant-loop-application : goal.invariant-loop-application
invariant-loop-application l = l.keys.items ≡ map (λ (a : ValuedApplication). a.output) (take l.application-index l.applications)
