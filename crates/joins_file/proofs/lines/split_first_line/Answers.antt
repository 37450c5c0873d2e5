use Rattle.std.proofs.Common.{◌∷◌, ◌∙◌, map, ap, sym}
use Rattle.protocol.specs.JoinsFile.{without_return, file_lines}
use Rattle.joins_file.proofs.lines.split_first_line.Goals as goal

pub returns-in-Some-clause-lines : goal.returns-in-Some-clause-lines
returns-in-Some-clause-lines c = ap (map without_return) c.in-Some.ensures.lines ∙ ap (λ l. l ∷ file_lines c.in-Some.rest.now) (sym c.without_return.ensures)

pub returns-in-None-clause-lines : goal.returns-in-None-clause-lines
returns-in-None-clause-lines c = ap (map without_return) c.in-None.ensures.lines
