use Rattle.std.proofs.Common.{ap, ◌∙◌}
use Rattle.shared_reader.specs.Lent.{LentPass}
use Rattle.shared_reader.proofs.LentLemmas.{same_pass}
use Rattle.range_cells.proofs.range_cells.RangeCells.stack.Goals as goal

pub returns-clause-lent : goal.returns-clause-lent
returns-clause-lent g c = ap (λ (v : LentPass). v.lent) c.new.ensures ∙ c.new-lowest.ensures.lent

pub returns-clause-pass : goal.returns-clause-pass
returns-clause-pass g c = same_pass _ _ c.new.ensures ∙ c.new-lowest.ensures.pass
