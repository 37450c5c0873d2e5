-- The changes between two tables, pair by pair.
use Rattle.std.specs.Prelude.{List, [], ◌∷◌, ◌++◌, map, if◌then◌else◌, Some, None}
use Rattle.std.specs.declared.cmp.Ordering.{Ordering}
use Rattle.std.specs.declared.cmp.Ordering.TheVariants.{Less, Equal, Greater}
use Rattle.semantics.specs.Texts.{Text, same, Table}
use Rattle.semantics.specs.States.{merged}
use Rattle.growing_history.specs.StateChanges.{Change, changes_among}

-- the changes between two tables, at the keys of both
abbrev pub changes_of : Table → Table → List Change
changes_of before after = changes_among (map (λ pair. pair.0) (merged before after)) before after

-- a pair that has gone
abbrev pub gone_pair : Text × Text → Change
gone_pair pair = record { key = pair.0; value = None }

-- a pair that has come, or in the place of another at its key
abbrev pub new_pair : Text × Text → Change
new_pair pair = record { key = pair.0; value = Some pair.1 }

-- the change from one pair to another at its key
abbrev pub change_of_both : Text × Text → Text × Text → List Change
change_of_both first next = if same first.1 next.1 then [] else new_pair next ∷ []

-- the first change is that of the pair with the lesser key, or of both at one key
abbrev pub begins_changes : Ordering → Text × Text → Table → Text × Text → Table → List Change
begins_changes Less first before next after = gone_pair first ∷ changes_of before (next ∷ after)
begins_changes Equal first before next after = change_of_both first next ++ changes_of before after
begins_changes Greater first before next after = new_pair next ∷ changes_of (first ∷ before) after
