use Rattle.std.proofs.Common.{◌≡◌, take}
use Rattle.base_shards.specs.Marks.{keys_of, marked_by_keys}
use Rattle.base_shards.proofs.marking.mark_written.Given as goal

-- the ids are marked that the entries so far mark
abbrev pub invariant-loop-placed : goal.invariant-loop-placed
invariant-loop-placed l = l.index ≡ marked_by_keys (keys_of (take l.placed-index l.own)) l.fn.index
