use Rattle.std.proofs.Common.{sym, ◌∙◌}
use Rattle.join_lang.proofs.TokenLemmas.{none_left}
use Rattle.join_lang.proofs.tokens.take_word.Goals as goal

pub returns-clause-none : goal.returns-clause-none
returns-clause-none c =
    c.loop-rest.invariant.1 ∙ none_left c.loop-rest.offset c.loop-rest.rest.now (sym c.loop-rest-test.ensures)
