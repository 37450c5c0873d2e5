-- What outputs hide.
use Rattle.std.specs.Prelude.{◌≡◌, List, map, not, if◌then◌else◌, true, None}
use Rattle.semantics.specs.Texts.{Range, Table, pairs_where}
use Rattle.semantics.specs.Histories.{DeclaredJoin, is_computed}
use Rattle.growing_history.specs.Changes.{is_bare}
use Rattle.growing_history.specs.StateChanges.{Change}

-- a change, without its value where the key fits the output of a join
abbrev pub without_hidden : List DeclaredJoin → Change → Change
without_hidden joins change = record { key = change.key; value = if not (is_computed joins change.key) then change.value else None }

-- where a range is bare, joins hide none of its pairs
abbrev pub HidesNoPair : List DeclaredJoin → Range → Table → Type 0
HidesNoPair joins range pairs = is_bare range joins ≡ true → pairs ≡ pairs_where (λ key. not (is_computed joins key)) pairs

-- nor a value at its changed keys
abbrev pub HidesNoValue : List DeclaredJoin → Range → List Change → Type 0
HidesNoValue joins range changes = is_bare range joins ≡ true → changes ≡ map (without_hidden joins) changes
