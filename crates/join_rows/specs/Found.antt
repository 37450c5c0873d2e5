-- Where a key stands among rows, or would stand.
use Rattle.std.specs.Prelude.{◌≡◌, ℕ, ◌<◌, ◌≤◌, [], length, take, drop, true, slice_index_or, Result, MatchResult}
use Rattle.std.specs.List.{AllByRecursion}
use Rattle.std.specs.Ordering.{is_lt, is_le}
use Rattle.semantics.specs.Texts.{Text, text_cmp, Table}

-- the row at a place
abbrev pub row_at : ℕ → Table → Text × Text
row_at place rows = slice_index_or rows place ([], [])

-- each key of the rows is below this one
abbrev pub AllBelow : Text → Table → Type 0
AllBelow key rows = AllByRecursion (λ row. is_lt (text_cmp row.0 key) ≡ true) rows

-- each key of the rows is above this one
abbrev pub AllAbove : Text → Table → Type 0
AllAbove key rows = AllByRecursion (λ row. is_lt (text_cmp key row.0) ≡ true) rows

-- no key of the rows is below this one
abbrev pub NoneBelow : Text → Table → Type 0
NoneBelow key rows = AllByRecursion (λ row. is_le (text_cmp key row.0) ≡ true) rows

-- the key stands at the place
pub record IsAt (key : Text) (rows : Table) (place : ℕ) : Type 0 where
  pub inside : place < length rows
  pub is : (row_at place rows).0 ≡ key

-- the key stands nowhere: those before the place are below it, and the others above
pub record IsGap (key : Text) (rows : Table) (place : ℕ) : Type 0 where
  pub inside : place ≤ length rows
  pub below : AllBelow key (take place rows)
  pub above : AllAbove key (drop place rows)

-- what a search for the key finds: its place, or where it would stand
abbrev pub Finds : Text → Table → Result ℕ ℕ → Type 0
Finds key rows found = MatchResult found (λ place. IsAt key rows place) (λ place. IsGap key rows place)

-- the rows before the place are below the key, and the others are not
pub record Parts (key : Text) (rows : Table) (place : ℕ) : Type 0 where
  pub inside : place ≤ length rows
  pub below : AllBelow key (take place rows)
  pub from : NoneBelow key (drop place rows)
