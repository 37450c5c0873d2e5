use Rattle.request_codec.proofs.FormLemmas.{five_items}
use Rattle.request_codec.proofs.reading.read_items.Goals as goal

pub returns-in_default-clause-fault : goal.returns-in_default-clause-fault
returns-in_default-clause-fault c = five_items c.args.items.now c.in_default.len_at_least
