use Rattle.join_lang.proofs.TokenLemmas.{tokens_from-start}
use Rattle.join_lang.proofs.tokens.Tokens.of.Goals as goal

pub returns : goal.returns
returns c = tokens_from-start c.args.text.now
