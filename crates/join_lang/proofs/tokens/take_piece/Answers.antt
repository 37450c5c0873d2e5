use Rattle.std.proofs.Common.{Some, None}
use Rattle.join_lang.proofs.TokenLemmas.{tokens_from-cut}
use Rattle.join_lang.proofs.tokens.take_piece.Goals as goal

pub returns-in-Some-clause-piece : goal.returns-in-Some-clause-piece
returns-in-Some-clause-piece c = λ at. tokens_from-cut at c.args.text.now c.cut_at.result.0.now (Some c.in-Some.rest) (rw c.in-Some.is at c.cut_at.ensures)

pub returns-in-None-clause-piece : goal.returns-in-None-clause-piece
returns-in-None-clause-piece c = λ at. tokens_from-cut at c.args.text.now c.cut_at.result.0.now None (rw c.in-None.is at c.cut_at.ensures)
