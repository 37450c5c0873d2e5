use Rattle.std.proofs.Common.{sym}
use Rattle.joins_file.proofs.DeclareLemmas.{join_of_line-no_text, join_of_line-text}
use Rattle.joins_file.proofs.declaring.read_line.Goals as goal

pub returns-in_default : goal.returns-in_default
returns-in_default c = sym (join_of_line-no_text c.args.line.now c.in_default.ensures.cases.0)

pub returns-in-Ok-parse : goal.returns-in-Ok-parse
returns-in-Ok-parse c = sym (join_of_line-text c.args.line.now c.in-Ok.text.now _ c.in-Ok.ensures.cases.1 c.in-Ok.ensures.cases.0 c.in-Ok-parse.ensures.ok)
