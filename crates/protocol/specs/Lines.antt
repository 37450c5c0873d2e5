-- How bytes are cut into request lines.
use Rattle.std.specs.Prelude.{ℕ, ◌-◌, ◌&&◌, take, List, [], ◌∷◌, length, nat_lt, nat_le, Bool, true, false, if◌then◌else◌}
use Rattle.semantics.specs.Patterns.{pieces}

-- bytes as they come in and go out; not every list of them is a text
abbrev pub Bytes : Type 0
Bytes = List ℕ

-- the longest line, without its byte 10
abbrev pub line_limit : ℕ
line_limit = 1048576

-- lines, and whether the mark Long ends them
pub record Cut : Type 0 where
  pub lines : List Bytes
  pub long : Bool

abbrev pub no_lines : Cut
no_lines = record { lines = []; long = false }

abbrev pub long_mark : Cut
long_mark = record { lines = []; long = true }

abbrev pub onto_lines : Bytes → Cut → Cut
onto_lines line cut = record { lines = line ∷ cut.lines; long = cut.long }

-- what follows the last byte 10 is a line where the input has ended and it is not empty
abbrev pub last_line : Bool → Bytes → Cut
last_line ended rest = if ended && nat_le 1 (length rest) then onto_lines rest no_lines else no_lines

-- the lines of the pieces between bytes 10; a line that is too long ends them before it
abbrev pub cut_pieces : Bool → List Bytes → Cut
cut_pieces ended [] = no_lines
cut_pieces ended (rest ∷ []) = if nat_lt line_limit (length rest) then long_mark else last_line ended rest
cut_pieces ended (t ∷ u ∷ ts) = if nat_lt line_limit (length t) then long_mark else onto_lines t (cut_pieces ended (u ∷ ts))

-- `Lines`: the bytes are cut at each byte 10; a line that reaches 1,048,577 bytes without one is marked Long
unfoldable pub lines_of : Bytes → Bool → Cut
lines_of bytes ended = cut_pieces ended (pieces 10 bytes)

-- the lines that a byte 10 ends: the pieces but the last
abbrev pub whole_lines : Bytes → List Bytes
whole_lines text = take (length (pieces 10 text) - 1) (pieces 10 text)
