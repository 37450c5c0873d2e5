-- The premise of `ranks` for a set of joins with one more.
use Rattle.std.proofs.Common.{ℕ, List, length}
use Rattle.semantics.specs.Graphs.{IsAcyclic}
use Rattle.semantics.specs.Histories.{DeclaredJoin}
use Rattle.semantics.specs.Joins.{Join}
use Rattle.semantics.specs.States.{reading}
use Rattle.semantics.specs.Verdicts.{joined}
use Rattle.semantics.proofs.AdmissibleSets.{last-from_cycle}
use Rattle.semantics.proofs.Members.{Contains-from_IsIn}
use Rattle.rank_order.specs.Answers.{EachCycleMeets}

-- where the earlier joins' reading has no cycle, every cycle of the larger set goes through the last join
pub EachCycleMeets-joined : (joins : List DeclaredJoin) (position : ℕ) (j : Join) → IsAcyclic (reading joins) → EachCycleMeets (reading (joined joins position j)) (length joins)
EachCycleMeets-joined joins position j earlier a cycle c = Contains-from_IsIn (length joins) cycle (last-from_cycle joins position j a cycle earlier c)
