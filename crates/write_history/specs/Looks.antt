-- What a look tells of the joins that stand.
use Rattle.std.specs.Prelude.{◌≡◌, ℕ, Option, None, IfSome, IfNone}
use Rattle.semantics.specs.Histories.{History, changed_at}
use Rattle.join_set.specs.Sets.{Joins, AreJoins}

-- who knows a position is told the joins of the history, which tell from a floor on which tables are bare; or none, just where the last declaration or drop is at that position
pub record TellsJoins (floor : ℕ) (h : History) (known : ℕ) (told : Option Joins) : Type 0 where
  pub joins : IfSome told (λ joins. AreJoins floor joins h)
  pub same : IfNone told (changed_at h ≡ known)
  pub none : changed_at h ≡ known → told ≡ None
