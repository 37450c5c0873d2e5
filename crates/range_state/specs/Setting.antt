-- What is made anew through applications.
use Rattle.std.specs.Prelude.{List, fold}
use Rattle.semantics.specs.Texts.{Text, Table}
use Rattle.agg_rows.specs.Kept.{KeptGroups, answer_of}
use Rattle.join_rows.specs.Kept.{set_pair}

-- the rows with the answers of groups at their output keys
abbrev pub remade : KeptGroups → List Text → Table → Table
remade groups outputs rows = fold (λ rows output. set_pair output (answer_of output groups) rows) rows outputs
