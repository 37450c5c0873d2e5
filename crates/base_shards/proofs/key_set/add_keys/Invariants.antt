use Rattle.std.proofs.Common.{◌≡◌, ◌++◌, List}
use Rattle.semantics.specs.Texts.{Text}
use Rattle.growing_history.specs.Changes.{in_order}
use Rattle.base_shards.proofs.key_set.add_keys.Given as goal

-- the keys so far come after those that were found
abbrev pub invariant-loop-key : goal.invariant-loop-key
invariant-loop-key l = (before : List Text) → l.fn.found.keys ≡ in_order before → l.found.keys ≡ in_order (before ++ l.yielded)
