use Rattle.std.proofs.Common.{◌≡◌, map}
use Rattle.base_reader.specs.Hiding.{without_hidden}
use Rattle.base_reader.proofs.hiding.hide_values.Given as goal

-- the changes so far are left, without what outputs hide
abbrev pub invariant-loop-change : goal.invariant-loop-change
invariant-loop-change l = l.left.items ≡ map (without_hidden l.joins.standing) l.yielded
