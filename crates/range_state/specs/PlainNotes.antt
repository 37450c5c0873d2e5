-- Notes in code as those of the definitions.
use Rattle.kept_ranges.specs.Notes.{Mark, key, slots}
use Rattle.range_state.specs.declared.note.Marked.{Marked}
use Rattle.range_state.specs.declared.note.Marked.TheVariants.{Key, Slots}

-- what is noted, as data
abbrev pub plain_mark : Marked → Mark
plain_mark (Key k) = key k
plain_mark (Slots s) = slots s
