use Rattle.command_words.proofs.LawLemmas.{one_word_is_two}
use Rattle.command_words.proofs.laws.one_word_is_two.Goals as goal

pub returns : goal.returns
returns c = one_word_is_two
