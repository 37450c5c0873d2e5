-- The events of the core, and its answers.
use Rattle.std.specs.Prelude.{◌≡◌, ℕ, ◌&&◌, ◌||◌, ◌∷◌, [], length, not, nat_le, nat_eq, Bool, true, false, ⊤}
use Rattle.std.specs.List.{ends_with}
use Rattle.semantics.specs.Texts.{Text, brace, has_bar, names_table, Range, Table}
use Rattle.semantics.specs.Histories.{Write}
use Rattle.semantics.specs.Verdicts.{Cause}

-- an event: a write by a client's number, the steps of a scan with a number, which begins over a range, is answered up to a text, and finishes, and what is done to the cell with a number: it is advanced to a position, mended in a range, or evicted
pub data Event : Type 0 where
  append : ℕ → Write → Event
  begin : ℕ → Range → Event
  piece : ℕ → Text → Event
  advance : ℕ → ℕ → Event
  mend : ℕ → Range → Event
  evict : ℕ → Event
  finish : ℕ → Event

-- an answer: that a write entered at a position, or was refused there; that a scan began at a position, was answered up to the text, or is finished, with its position and its pairs; that a cell was brought to the position, is mended, or is free; or that there was nothing to do
pub data Done : Type 0 where
  entered : ℕ → Done
  refused : ℕ → Cause → Done
  begun : ℕ → Done
  answered : Done
  finished : ℕ → Table → Done
  brought : Done
  mended : Done
  evicted : Done
  nothing : Done

-- whether an event is of a cell
abbrev pub is_cell_event : Event → Bool
is_cell_event (append client write) = false
is_cell_event (begin scan range) = false
is_cell_event (piece scan upto) = false
is_cell_event (advance cell to) = true
is_cell_event (mend cell range) = true
is_cell_event (evict cell) = true
is_cell_event (finish scan) = false

-- whether a text is `T}` for a table's name T of 1 to 64 bytes without `|`
abbrev pub closes_table : Text → Bool
closes_table t = ends_with nat_eq t (brace ∷ []) && not (has_bar t) && nat_le 2 (length t) && nat_le (length t) 65

-- whether a text may bound a range: it has at most 513 bytes, and for a table's name T it begins with `T|` or is `T}`
abbrev pub is_bound : Text → Bool
is_bound t = nat_le (length t) 513 && (names_table t || closes_table t)

-- what is asked of an event: that the text up to which a scan is to be answered may bound a range
abbrev pub IsEvent : Event → Type 0
IsEvent (append client write) = ⊤
IsEvent (begin scan range) = ⊤
IsEvent (piece scan upto) = is_bound upto ≡ true
IsEvent (advance cell to) = ⊤
IsEvent (mend cell range) = ⊤
IsEvent (evict cell) = ⊤
IsEvent (finish scan) = ⊤
