-- What the entries of a history leave.
use Rattle.std.specs.Prelude.{◌≡◌}
use Rattle.semantics.specs.Histories.{History, base_of}
use Rattle.join_set.specs.Summaries.{StandsFor}
use Rattle.join_model.specs.declared.replay.Left.{Left}

-- what is kept stands for the history, has let no join go yet, and has the base pairs of the history
pub record IsLeftBy (h : History) (left : Left) : Type 0 where
  pub stands : StandsFor left.standing h
  pub unsettled : left.standing.floor ≡ 0
  pub base : left.base ≡ base_of h
