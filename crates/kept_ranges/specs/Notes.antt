-- Notes of which keys of an output may have changed.
use Rattle.std.specs.Prelude.{◌≡◌, ℕ, zero, suc, ◌-◌, ◌≤◌, ◌&&◌, List, [], ◌∷◌, ◌++◌, length, take, drop, Bool, true, false, nat_lt, is_some}
use Rattle.std.specs.List.{list_any}
use Rattle.semantics.specs.Texts.{Text, same, Range, value_at, within}
use Rattle.semantics.specs.Patterns.{Pattern, Slots, bind}
use Rattle.semantics.specs.Joins.{Join}
use Rattle.semantics.specs.Histories.{History}
use Rattle.semantics.specs.Outputs.{out}
use Rattle.semantics.specs.States.{below}
use Rattle.kept_ranges.specs.Kept.{is_covered}

-- what is noted: one output key, or slots of the output
pub data Mark : Type 0 where
  key : Text → Mark
  slots : Slots → Mark

-- a note, and the position at which it was made
pub record Note : Type 0 where
  pub position : ℕ
  pub mark : Mark

-- whether a mark covers a key of the output
abbrev pub marks : Pattern → Text → Mark → Bool
marks output q (key k) = same k q
marks output q (slots s) = is_some (bind output q s)

-- whether a note that was made after a position covers a key
abbrev pub is_noted : Pattern → ℕ → List Note → Text → Bool
is_noted output u notes q = list_any (λ note. nat_lt u note.position && marks output q note.mark) notes

-- how many notes are kept at most
abbrev pub note_limit : ℕ
note_limit = 256

-- notes stand in the order in which they were made: none was made before a first position, before an earlier one, or after a last position
abbrev pub AreInOrder : ℕ → ℕ → List Note → Type 0
AreInOrder first last [] = first ≤ last
AreInOrder first last (note ∷ notes) = (first ≤ note.position) × AreInOrder note.position last notes

-- notes, and the position from which they are complete
pub record Notes : Type 0 where
  pub start : ℕ
  pub list : List Note

-- the position of the last of so many first notes, the given one where there is none
abbrev pub last_dropped : ℕ → ℕ → List Note → ℕ
last_dropped start zero notes = start
last_dropped start (suc dropped) [] = start
last_dropped start (suc dropped) (note ∷ notes) = last_dropped note.position dropped notes

-- the notes with others added: the last 256 of all; where older ones are pushed out, the notes start at the position of the last of them
abbrev pub noted : Notes → List Note → Notes
noted notes added =
    record {
      start = last_dropped notes.start (length (notes.list ++ added) - note_limit) (notes.list ++ added);
      list = drop (length (notes.list ++ added) - note_limit) (notes.list ++ added);
    }

-- from the notes' start on: at each key of the range that neither pending slots nor a later note covers, the join's output is the same at all positions up to q
abbrev pub NotesHold : Join → ℕ → Range → History → ℕ → List Slots → Notes → Type 0
NotesHold j rank range h q pending notes = (u x : ℕ) (k : Text) → notes.start ≤ u → u ≤ x → x ≤ q → within range k ≡ true → is_covered j.output pending k ≡ false → is_noted j.output u notes.list k ≡ false →
    value_at k (out j (below (take x h) rank)) ≡ value_at k (out j (below (take u h) rank))
