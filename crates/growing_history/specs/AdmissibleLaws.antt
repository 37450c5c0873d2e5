-- Further laws on the sets of joins that may stand.
use Rattle.std.specs.Prelude.{◌≡◌, ◌↔◌, ℕ, ◌+◌, ◌-◌, ◌<◌, ◌^◌, ◌==◌, List, length, true, None}
use Rattle.std.specs.List.{list_any}
use Rattle.semantics.specs.Joins.{Join}
use Rattle.semantics.specs.Histories.{declare, drop_join, History, DeclaredJoin, without, joins_of}
use Rattle.semantics.specs.States.{IsAdmissible}
use Rattle.semantics.specs.Verdicts.{joined, join_cause, verdict}

-- a join has no cause against it exactly where the admissible set stays so with it
abbrev pub JoinsWhereAdmissible : Type 0
JoinsWhereAdmissible = (joins : List DeclaredJoin) (position : ℕ) (j : Join) → IsAdmissible joins →
    (join_cause joins position j ≡ None) ↔ IsAdmissible (joined joins position j)

-- a declaration may enter the history: there is room, and the joins are admissible with the new one
pub record MayDeclare (j : Join) (h : History) : Type 0 where
  pub roomy : length h < 2 ^ 48 - 1
  pub admissible : IsAdmissible (joined (joins_of h) (length h + 1) j)

-- where the joins that stand are admissible, a declaration has no cause against it exactly where it may enter
abbrev pub DeclaresWhereAdmissible : Type 0
DeclaresWhereAdmissible = (j : Join) (h : History) → IsAdmissible (joins_of h) → (verdict (declare j) h ≡ None) ↔ MayDeclare j h

-- a set without some of its joins is admissible where the set is
abbrev pub PartIsAdmissible : Type 0
PartIsAdmissible = (joins : List DeclaredJoin) (position : ℕ) → IsAdmissible joins → IsAdmissible (without position joins)

-- a drop has no cause against it exactly where there is room and a join with the position stands
abbrev pub DropsWhereStanding : Type 0
DropsWhereStanding = (at : ℕ) (h : History) → (verdict (drop_join at) h ≡ None) ↔ ((length h < 2 ^ 48 - 1) × (list_any (λ s. s.position == at) (joins_of h) ≡ true))
