use Rattle.std.proofs.Common.{None, lit<}
use Rattle.std.proofs.lemmas.Str.Pattern.{split_once_first}
use Rattle.key_space.proofs.NameLemmas.{absent_by}
use Rattle.key_space.proofs.table.find_table.Goals as goal

pub returns-in-None : goal.returns-in-None
returns-in-None c = absent_by _ c.args.text.now (split_once_first 124 c.args.text.now None c.in-None.ensures.cases (lit< tt))
