-- What changed in a range of the state from one position of a history to another.
use Rattle.std.specs.Prelude.{ℕ, List, map, filter, fold, take, Bool, true, false, not, Option, Some, None}
use Rattle.semantics.specs.Texts.{Text, same, Range, Table, value_at, with_pair, without_key, pairs_within}
use Rattle.semantics.specs.Histories.{History}
use Rattle.semantics.specs.States.{merged, state}

-- a key with its value, or with none where it has gone
pub record Change : Type 0 where
  pub key : Text
  pub value : Option Text

-- whether both are the same value, or both none
abbrev pub same_value : Option Text → Option Text → Bool
same_value None None = true
same_value None (Some w) = false
same_value (Some v) None = false
same_value (Some v) (Some w) = same v w

-- whether two tables have not the same pair at a key
abbrev pub differ_at : Table → Table → Text → Bool
differ_at before after key = not (same_value (value_at key before) (value_at key after))

-- what a table has at a key, as a change
abbrev pub change_to : Table → Text → Change
change_to after key = record { key = key; value = value_at key after }

-- of some keys, those at which two tables differ, with what the second has there
abbrev pub changes_among : List Text → Table → Table → List Change
changes_among keys before after = map (change_to after) (filter (differ_at before after) keys)

-- the keys of a range that one of two tables has, in order, each once
abbrev pub keys_of_both : Range → Table → Table → List Text
keys_of_both range before after = map (λ pair. pair.0) (pairs_within range (merged before after))

-- each key of a range at which two tables differ, in order, with what the second has there
abbrev pub changes_between : Range → Table → Table → List Change
changes_between range before after = changes_among (keys_of_both range before after) before after

-- `Changes`: each key of a range whose pair after q entries is not its pair after p, in order, with its value after p, or none
unfoldable pub changes : Range → History → ℕ → ℕ → List Change
changes range h q p = changes_between range (state (take q h)) (state (take p h))

-- ---- what a list of changes makes of a table

-- the table with a value at the key, or without the key
abbrev pub set_or_taken : Text → Option Text → Table → Table
set_or_taken key None table = without_key key table
set_or_taken key (Some value) table = with_pair key value table

-- the table with each of the keys set or taken out, one after another
abbrev pub with_changes : List Change → Table → Table
with_changes changes table = fold (λ t change. set_or_taken change.key change.value t) table changes
