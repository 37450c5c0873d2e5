use Rattle.std.proofs.Common.{◌≡◌, ◌++◌}
use Rattle.updater_index.proofs.registered.listed.Given as goal

abbrev pub invariant-loop-id : goal.invariant-loop-id
invariant-loop-id l = l.ids.items ++ l.id-iterator ≡ l.fn.found.keys
