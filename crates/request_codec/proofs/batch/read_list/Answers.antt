use Rattle.std.proofs.Common.{◌∙◌, sym, ap, Some}
use Rattle.serde_json.specs.View.{view, items_view}
use Rattle.protocol.specs.Batches.{entry_of, entries_of}
use Rattle.request_codec.proofs.BatchLemmas.{none_whole, entries_of-next, entries_of-none}
use Rattle.request_codec.proofs.batch.read_list.Goals as goal

pub returns-in-Err-clause-fault : goal.returns-in-Err-clause-fault
returns-in-Err-clause-fault c =
    none_whole (entry_of (view c.value-item.result)) (entries_of (items_view c.args.list.now)) c.in-Err.fault
    (entries_of-none c.args.list.now c.loop-value.value-index c.value-item.result c.loop-value-test.true c.value-item.is) c.in-Err.ensures.fault

pub loop-value-preserved : goal.loop-value-preserved
loop-value-preserved c =
    entries_of-next c.args.list.now c.loop-value.value-index c.value-item.result c.loop-value.entries.items c.in-Ok.entry c.loop-value-test.true c.value-item.is c.loop-value.invariant c.in-Ok.ensures.entry ∙ sym (ap Some c.in-Ok-push_entry.ensures)
