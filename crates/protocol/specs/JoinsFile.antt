-- A file of joins, and what is written about it.
use Rattle.std.specs.Prelude.{ℕ, ◌+◌, ◌-◌, ◌||◌, ◌==◌, List, [], ◌∷◌, ◌++◌, length, map, flat_map, take, zip, codes, nat_eq, slice_index, Bool, if◌then◌else◌, Option, Some, None, Result, Ok, Err}
use Rattle.std.specs.List.{list_all, ends_with}
use Rattle.std.specs.Str.{is_utf8}
use Rattle.serde_json.specs.Data.{string}
use Rattle.semantics.specs.Texts.{Text}
use Rattle.semantics.specs.Patterns.{pieces}
use Rattle.semantics.specs.Joins.{Join}
use Rattle.semantics.specs.Histories.{declare, History, DeclaredJoin, joins_of}
use Rattle.semantics.specs.States.{ranks_of}
use Rattle.semantics.specs.Verdicts.{Cause, computed, full, nojoin, slots, sources, clash, cycle, deep, many, verdict}
use Rattle.protocol.specs.JoinText.{read_join, canonical_text}
use Rattle.protocol.specs.Rows.{whole_number, row}
use Rattle.protocol.specs.Lines.{Bytes}

-- lines end at byte 10; the last one counts where it is not empty
abbrev pub counted_lines : List Bytes → List Bytes
counted_lines [] = []
counted_lines (t ∷ []) = if length t == 0 then [] else t ∷ []
counted_lines (t ∷ u ∷ ts) = t ∷ counted_lines (u ∷ ts)

-- the line without one byte 13 at its end
abbrev pub without_return : Bytes → Bytes
without_return t = if ends_with nat_eq t (13 ∷ []) then take (length t - 1) t else t

-- the lines of a file
abbrev pub file_lines : Bytes → List Bytes
file_lines bytes = map without_return (counted_lines (pieces 10 bytes))

-- a line that is empty, has spaces alone, or begins with `#` is skipped
abbrev pub is_skipped : Bytes → Bool
is_skipped line = list_all (λ b. b == 32) line || (slice_index line 0 == 35)

-- the name that a refusal has on the wire
abbrev pub cause_name : Cause → Text
cause_name (computed position) = codes "computed"
cause_name full = codes "full"
cause_name nojoin = codes "nojoin"
cause_name slots = codes "slots"
cause_name sources = codes "sources"
cause_name (clash position) = codes "clash"
cause_name (cycle positions) = codes "cycle"
cause_name deep = codes "deep"
cause_name many = codes "many"

-- why a line is refused: `syntax`, or the verdict's name
abbrev cause_or_join : Join → History → Option Cause → Result History Text
cause_or_join j h None = Ok (h ++ record { client = 0; write = declare j } ∷ [])
cause_or_join j h (Some cause) = Err (cause_name cause)

abbrev declared : Result Join ℕ → History → Result History Text
declared (Err at) h = Err (codes "syntax")
declared (Ok j) h = cause_or_join j h (verdict (declare j) h)

-- the history after a line, which declares its join by the number 0; a line that is not UTF-8 is no join text
abbrev pub declare_line : Bytes → History → Result History Text
declare_line line h = if is_skipped line then Ok h else (if is_utf8 line then declared (read_join line) h else Err (codes "syntax"))

-- a refused line: its number, counted from 1 with skipped lines among them, and the name
abbrev at_line : ℕ → Result History Text → (History → Result History (ℕ × Text)) → Result History (ℕ × Text)
at_line number (Err name) more = Err (number, name)
at_line number (Ok h) more = more h

-- the history after lines, or the first line that is refused
abbrev pub declare_lines : ℕ → History → List Bytes → Result History (ℕ × Text)
declare_lines number h [] = Ok h
declare_lines number h (line ∷ lines) = at_line number (declare_line line h) (λ more. declare_lines (number + 1) more lines)

-- the history that a joins file declares
unfoldable pub file_history : Bytes → Result History (ℕ × Text)
file_history bytes = declare_lines 1 [] (file_lines bytes)

-- a join with its position, its rank in the whole set and its canonical text
abbrev pub join_row : ℕ × DeclaredJoin → Text
join_row p = row (string (codes "join") ∷ whole_number p.1.position ∷ whole_number p.0 ∷ string (canonical_text p.1.join) ∷ [])

abbrev pub refused_row : ℕ × Text → Text
refused_row refused = row (string (codes "refused") ∷ whole_number refused.0 ∷ string refused.1 ∷ [])

abbrev pub check_of : Result History (ℕ × Text) → Text
check_of (Ok h) = flat_map join_row (zip (ranks_of (joins_of h)) (joins_of h))
check_of (Err refused) = refused_row refused

-- what `check` writes about the bytes of a joins file: a row for each join in order, or one for the first refused line
unfoldable pub check_text : Bytes → Text
check_text bytes = check_of (file_history bytes)
