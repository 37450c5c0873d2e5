use Rattle.std.proofs.Common.{ap, ◌∙◌}
use Rattle.semantics.specs.Histories.{changed_at}
use Rattle.join_set.specs.Sets.{Joins}
use Rattle.base_reader.proofs.reader.BaseReader.changed_at.Goals as goal

pub returns : goal.returns
returns c = c.changed_at.ensures.changed ∙ ap (λ (js : Joins). js.changed) c.joins.ensures.joins ∙ c.self.invariant.summary.joins.changed ∙ ap changed_at c.self.view_is
