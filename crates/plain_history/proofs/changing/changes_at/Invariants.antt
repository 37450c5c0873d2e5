use Rattle.std.proofs.Common.{◌≡◌, ◌++◌, map}
use Rattle.growing_history.specs.StateChanges.{changes_among}
use Rattle.plain_history.proofs.changing.changes_at.Given as goal

-- with the changes that are left to be found, these are all
abbrev pub invariant-loop-pair : goal.invariant-loop-pair
invariant-loop-pair l = l.changes.items ++ changes_among (map (λ p. p.0) l.pair-iterator.rest.items) l.before l.after ≡ changes_among (map (λ p. p.0) l.fn.pairs.items) l.before l.after
