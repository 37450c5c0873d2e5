use Rattle.std.proofs.Common.{◌≡◌, map, take, Some}
use Rattle.serde_json.specs.View.{view}
use Rattle.serde_json.specs.View.{items_view}
use Rattle.protocol.specs.Batches.{entries_of}
use Rattle.request_codec.proofs.batch.read_list.Given as goal

abbrev pub invariant-loop-value : goal.invariant-loop-value
invariant-loop-value l = entries_of (items_view (take l.value-index l.list)) ≡ Some l.entries.items
