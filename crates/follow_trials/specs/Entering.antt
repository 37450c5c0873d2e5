-- What becomes of a write behind others.
use Rattle.std.specs.Prelude.{◌≡◌, ◌≢◌, List, [], ◌∷◌, ◌++◌, Option, Some, None}
use Rattle.semantics.specs.Histories.{Write}
use Rattle.join_types.specs.declared.cause.Cause.{Cause}
use Rattle.follow_node.specs.Replicas.{cause_after}

-- without a cause it stands behind the others; where a cause is given there is one, and they stay
abbrev pub Enters : List Write → Write → Option Cause → List Write → Type 0
Enters before w None after = (cause_after before w ≡ None) × (after ≡ before ++ w ∷ [])
Enters before w (Some cause) after = (cause_after before w ≢ None) × (after ≡ before)
