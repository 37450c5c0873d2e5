-- What is read of a range at a position so that it can be told what changed in it.
use Rattle.std.specs.Prelude.{ℕ, List, flat_map}
use Rattle.semantics.specs.Texts.{Text, Range, Table, pairs_within}
use Rattle.semantics.specs.Histories.{History}
use Rattle.key_ranges.specs.Ranges.{just}
use Rattle.join_eval.specs.Answers.{ListsChanges}
use Rattle.join_eval.specs.declared.reading.Changed.{Changed}
use Rattle.join_eval.specs.declared.reading.Changed.TheVariants.{Keys, All}

-- the pairs of a table at some keys, in the order of the keys
abbrev pub pairs_at : List Text → Table → Table
pairs_at keys table = flat_map (λ key. pairs_within (just key) table) keys

-- the pairs of a range at the keys that may have changed, where it is said which, and otherwise all
abbrev pub pairs_asked : Changed → Range → Table → Table
pairs_asked (Keys keys) range table = pairs_at keys.items table
pairs_asked All range table = pairs_within range table

-- these are keys of the range, ascending, and among them is each at which the state is not the same at all positions from q to p; or it is not said which
abbrev pub TellsTouched : History → ℕ → ℕ → Range → Changed → Type 0
TellsTouched h q p range (Keys keys) = ListsChanges h q p 8 range keys.items
TellsTouched h q p range All = Unit {0}
