use Rattle.std.proofs.Common.{sym}
use Rattle.request_codec.proofs.BatchLemmas.{second_few}
use Rattle.request_codec.proofs.batch.second_of.Goals as goal

pub returns-in-len1 : goal.returns-in-len1
returns-in-len1 c = sym (second_few c.args.items.now c.in-len1.len_below)
