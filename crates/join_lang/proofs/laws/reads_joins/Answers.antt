use Rattle.std.proofs.Common.{length}
use Rattle.protocol.specs.JoinText.{tokens}
use Rattle.join_lang.proofs.JoinLemmas.{read_is_short, read_is_join}
use Rattle.join_lang.proofs.laws.reads_joins.Goals as goal

pub returns : goal.returns
returns c = λ text j h. read_is_join (length text) (tokens text) j (read_is_short text j h).1
