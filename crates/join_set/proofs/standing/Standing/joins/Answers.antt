use Rattle.std.proofs.Common.{◌≤◌, ap, arith}
use Rattle.join_set.specs.Summaries.{Summary}
use Rattle.join_set.proofs.SummaryLemmas.{within_some}
use Rattle.join_set.proofs.standing.Standing.joins.Goals as goal

pub returns-clause-within : goal.returns-clause-within
returns-clause-within c =
    let within : c.self.inside.joins.changed ≤ c.self.inside.entries = within_some _ c.self.invariant in
    omega (arith, within, ap (λ (s : Summary). s.length) c.self.view_is)
