use Rattle.std.proofs.Common.{arith}
use Rattle.request_codec.proofs.BatchLemmas.{batch_few, batch_many}
use Rattle.request_codec.proofs.batch.read_batch_items.Goals as goal

pub returns-in-len1-clause-fault : goal.returns-in-len1-clause-fault
returns-in-len1-clause-fault c = batch_few c.args.items.now (omega (arith, c.in-len1.len_below))

pub returns-in-len2-clause-fault : goal.returns-in-len2-clause-fault
returns-in-len2-clause-fault c = batch_few c.args.items.now (omega (arith, c.in-len2.len_below))

pub returns-in-len3-clause-fault : goal.returns-in-len3-clause-fault
returns-in-len3-clause-fault c = batch_few c.args.items.now (omega (arith, c.in-len3.len_below))

pub returns-in_default-clause-fault : goal.returns-in_default-clause-fault
returns-in_default-clause-fault c = batch_many c.args.items.now c.in_default.len_at_least
