-- What is kept for an aggregate besides: what is listed at each output key.
use Rattle.std.specs.Prelude.{◌≡◌, List, map, filter, fold, if◌then◌else◌, Contains, Option}
use Rattle.semantics.specs.Texts.{Text, same, Table, Range, value_at}
use Rattle.semantics.specs.Patterns.{no_slots}
use Rattle.semantics.specs.Joins.{Operator, Join}
use Rattle.semantics.specs.Outputs.{result_of}
use Rattle.range_evaluation.specs.Contributions.{Contribution, listed_contributions}
use Rattle.agg_rows.specs.Kept.{set_source}
use Rattle.kept_ranges.specs.Rules.{Application}

-- the pairs that contributions list at an output key
abbrev pub listed_at : Text → List Contribution → Table
listed_at key given = map (λ c. (c.source, c.value)) (filter (λ c. same c.output key) given)

-- at each output key the pairs are listed that the table contributes to the range, one by one
abbrev pub AreListed : Join → Range → Table → (Text → Table) → Type 0
AreListed j range table listing = (key : Text) → listing key ≡ listed_at key (listed_contributions j no_slots range table)

-- the pairs of an output key with the value that a table has at the source key of each application to it, or none
abbrev pub listed_after : Table → List Application → Text → Table → Table
listed_after table applying key pairs = fold (λ pairs a. if same a.output key then set_source a.source (value_at a.source table) pairs else pairs) pairs applying

-- what the operator makes of listed pairs
abbrev pub answer_of : Operator → Table → Option Text
answer_of operator pairs = result_of operator (map (λ pair. pair.1) pairs)

-- some application is to the key
abbrev pub IsApplied : List Application → Text → Type 0
IsApplied applying key = Contains (map (λ a. a.output) applying) key
