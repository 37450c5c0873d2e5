use Rattle.command_words.proofs.LawLemmas.{order_is_free}
use Rattle.command_words.proofs.laws.order_is_free.Goals as goal

pub returns : goal.returns
returns c = order_is_free
