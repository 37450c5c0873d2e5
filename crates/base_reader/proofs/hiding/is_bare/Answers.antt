use Rattle.std.proofs.Common.{sym, ◌∙◌}
use Rattle.base_reader.proofs.ReachingLemmas.{bare_joins}
use Rattle.base_reader.proofs.hiding.is_bare.Goals as goal

pub returns : goal.returns
returns c = λ yes. bare_joins c.args.joins.now c.changed_at.result c.args.range.now c.table.result.now c.table.ensures.table (sym c.bare_since.ensures ∙ yes)
