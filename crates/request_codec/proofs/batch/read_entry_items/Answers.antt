use Rattle.request_codec.proofs.BatchLemmas.{entry_few, entry_many}
use Rattle.request_codec.proofs.batch.read_entry_items.Goals as goal

pub returns-in-len1-clause-fault : goal.returns-in-len1-clause-fault
returns-in-len1-clause-fault c = entry_few c.args.items.now c.in-len1.len_below

pub returns-in_default-clause-fault : goal.returns-in_default-clause-fault
returns-in_default-clause-fault c = entry_many c.args.items.now c.in_default.len_at_least
