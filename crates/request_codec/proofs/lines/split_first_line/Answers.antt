use Rattle.std.proofs.Common.{◌∙◌, sym, refl}
use Rattle.request_codec.proofs.LineLemmas.{lines-cut, lines-last}
use Rattle.request_codec.proofs.lines.split_first_line.Goals as goal

pub returns-in-Some-clause-lines : goal.returns-in-Some-clause-lines
returns-in-Some-clause-lines c = lines-cut c.args.bytes.now _ _ c.in-Some.end (sym c.in-Some.ensures) refl refl

pub returns-in-None-clause-lines : goal.returns-in-None-clause-lines
returns-in-None-clause-lines c = lines-last c.args.bytes.now (sym c.is_empty.ensures ∙ c.if-is_empty.false) (sym c.in-None.ensures)
