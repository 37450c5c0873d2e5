use Rattle.std.proofs.Common.{◌≡◌, take}
use Rattle.join_rows.proofs.FittingLemmas.{without_keys}
use Rattle.join_rows.proofs.table.Table.drop_keys.Given as goal

abbrev pub invariant-loop-key : goal.invariant-loop-key
invariant-loop-key l = l.self ≡ without_keys l.fn.self (take l.key-index l.keys)
