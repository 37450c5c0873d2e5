-- Laws on the sets of joins that may stand.
use Rattle.std.specs.Prelude.{◌≡◌, ℕ, List, None}
use Rattle.semantics.specs.Joins.{Join}
use Rattle.semantics.specs.Histories.{DeclaredJoin}
use Rattle.semantics.specs.States.{IsAdmissible}
use Rattle.semantics.specs.Verdicts.{join_cause, joined}

-- an admissible set stays admissible with a join that has no cause against it
abbrev pub JoinedIsAdmissible : Type 0
JoinedIsAdmissible = (joins : List DeclaredJoin) (position : ℕ) (j : Join) → IsAdmissible joins → join_cause joins position j ≡ None →
    IsAdmissible (joined joins position j)
