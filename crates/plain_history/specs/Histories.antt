-- What is kept of a history beside its entries.
use Rattle.semantics.specs.Histories.{History}
use Rattle.protocol.specs.Own.{AreOwn}
use Rattle.join_set.specs.Summaries.{Summary, StandsFor}

-- the summary is of these entries, and each is of the client with the number 0
pub record IsKept (summary : Summary) (h : History) : Type 0 where
  pub stands : StandsFor summary h
  pub own : AreOwn h
