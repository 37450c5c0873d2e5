-- Steps in the reading of a join's text.
use Rattle.std.specs.Prelude.{ℕ, List, Result}
use Rattle.semantics.specs.Texts.{Text}
use Rattle.semantics.specs.Patterns.{Pattern}
use Rattle.semantics.specs.Joins.{Join}
use Rattle.protocol.specs.JoinText.{Token, read_kind, read_some_sources, as_join}

-- the join of what comes behind the output and `=`
abbrev pub join_of_output : ℕ → Pattern → List Text → List Token → Result Join ℕ
join_of_output end output names ts = as_join output (read_kind ts).0 (read_some_sources end names (read_kind ts).1)
