-- The text of a join: its grammar, the byte at which a text stops being one, and the canonical text.
use Rattle.std.specs.Prelude.{ℕ, ◌+◌, ◌-◌, ◌&&◌, ◌||◌, ◌==◌, List, [], ◌∷◌, ◌++◌, length, map, filter, take, drop, slice_index, find, codes, decimal, Bool, true, nat_lt, nat_le, nat_eq, if◌then◌else◌, Option, Some, None, option_map, option_and_then, Result, Ok, Err}
use Rattle.std.specs.List.{list_any, list_all, ends_with, before_first, after_first, position_or_len, join_with_byte, slice_index_or}
use Rattle.semantics.specs.Texts.{Text, same, bar}
use Rattle.semantics.specs.Patterns.{Segment, literal, slot, Pattern, is_literal, is_pattern, pieces, segments}
use Rattle.semantics.specs.Joins.{Operator, check, copy, count, sum, min, max, Kind, push, pull, Source, Join}
use Rattle.semantics.specs.Outputs.{is_positive, digits_value}

-- ---- tokens

-- a token: the offset of its first byte, and its bytes
pub record Token : Type 0 where
  pub at : ℕ
  pub text : Text

-- pieces of a text, each with its offset, where one byte stands between two
abbrev pub placed : ℕ → List Text → List Token
placed at [] = []
placed at (t ∷ ts) = record { at = at; text = t } ∷ placed (at + length t + 1) ts

-- the tokens are the longest runs of bytes other than the space
abbrev pub tokens : Text → List Token
tokens text = filter (λ token. nat_le 1 (length token.text)) (placed 0 (pieces 32 text))

-- ---- pattern tokens

-- a letter a to z or A to Z, a digit, or `_`
abbrev pub is_name_byte : ℕ → Bool
is_name_byte b = nat_le 97 b && nat_le b 122 || nat_le 65 b && nat_le b 90 || nat_le 48 b && nat_le b 57 || (b == 95)

-- a slot's name has 1 to 32 characters
abbrev pub is_name : Text → Bool
is_name t = nat_le 1 (length t) && nat_le (length t) 32 && list_all is_name_byte t

-- the place of a name among the names so far, which go on with a new one; there is none for a seventeenth
abbrev pub place_among : List Text → Text → Option (ℕ × List Text)
place_among names name =
    if list_any (same name) names then Some (position_or_len (same name) names, names)
    else (if nat_lt (length names) 16 then Some (length names, names ++ name ∷ []) else None)

-- a width: a decimal without leading zeros, from 1 to 64
abbrev pub width_of : Text → Option ℕ
width_of t = if is_positive t && nat_le (digits_value t) 64 then Some (digits_value t) else None

-- a slot of this name and width, and the names so far
abbrev pub slot_named : List Text → Text → ℕ → Option (Segment × List Text)
slot_named names name width =
    if is_name name then option_map (λ found. (slot found.0 width, found.1)) (place_among names name) else None

-- what stands between `<` and `>`: a name, or a name, `:` and a width
abbrev pub slot_of_body : List Text → Text → Option (Segment × List Text)
slot_of_body names body =
    if list_any (λ b. b == 58) body
    then option_and_then (slot_named names (before_first (λ b. b == 58) body)) (width_of (after_first (λ b. b == 58) body))
    else slot_named names body 0

-- whether a segment begins with `<` and ends with `>`
abbrev pub is_bracketed : Text → Bool
is_bracketed t = (slice_index t 0 == 60) && ends_with nat_eq t (62 ∷ [])

-- a segment of a pattern token: a slot in brackets, or a literal
abbrev pub read_segment : List Text → Text → Option (Segment × List Text)
read_segment names t =
    if is_bracketed t then slot_of_body names (take (length t - 2) (drop 1 t))
    else (if is_literal t then Some (literal t, names) else None)

-- the segments one after another, each with the names of those before
abbrev pub read_segments : List Text → List Text → Option (Pattern × List Text)
read_segments names [] = Some ([], names)
read_segments names (t ∷ ts) =
    option_and_then (λ one. option_map (λ others. (one.0 ∷ others.0, others.1)) (read_segments one.1 ts)) (read_segment names t)

abbrev if_pattern : Pattern × List Text → Option (Pattern × List Text)
if_pattern found = if is_pattern found.0 then Some found else None

-- a pattern token has at most 512 bytes, and its segments make a pattern
unfoldable pub read_pattern : List Text → Text → Option (Pattern × List Text)
read_pattern names t = if nat_le (length t) 512 then option_and_then if_pattern (read_segments names (segments t)) else None

-- ---- the whole text

-- the operators by their words
abbrev pub operator_words : List (Text × Operator)
operator_words =
    (codes "check", check) ∷ (codes "copy", copy) ∷ (codes "count", count) ∷ (codes "sum", sum) ∷ (codes "min", min) ∷ (codes "max", max) ∷ []

abbrev pub operator_of : Text → Option Operator
operator_of t = option_map (λ entry. entry.1) (find (λ entry. same entry.0 t) operator_words)

-- a token is wanted: without one the text is refused at its end
abbrev pub next : {A : Type 0} → ℕ → List Token → (Token → List Token → Result A ℕ) → Result A ℕ
next end [] more = Err end
next end (t ∷ ts) more = more t ts

-- a token is read: where it is not accepted in its place, the text is refused at its first byte
abbrev pub accept : {A B : Type 0} → Token → Option A → (A → Result B ℕ) → Result B ℕ
accept token None more = Err token.at
accept token (Some read) more = more read

abbrev pub onto_sources : Source → Result (List Source × List Text) ℕ → Result (List Source × List Text) ℕ
onto_sources s (Err at) = Err at
onto_sources s (Ok read) = Ok (s ∷ read.0, read.1)

-- operators with their patterns, to the end of the text
abbrev pub read_sources : ℕ → List Text → List Token → Result (List Source × List Text) ℕ
read_sources end names [] = Ok ([], names)
read_sources end names (o ∷ []) = accept o (operator_of o.text) (λ operator. Err end)
read_sources end names (o ∷ p ∷ ts) =
    accept o (operator_of o.text) (λ operator.
    accept p (read_pattern names p.text) (λ found.
    onto_sources (record { operator = operator; pattern = found.0 }) (read_sources end found.1 ts)))

-- at least one source is wanted
abbrev pub read_some_sources : ℕ → List Text → List Token → Result (List Source × List Text) ℕ
read_some_sources end names ts = next end ts (λ o others. read_sources end names (o ∷ others))

-- `push` or `pull` may stand before the sources; `push` is meant where neither does
abbrev pub read_kind : List Token → Kind × List Token
read_kind [] = (push, [])
read_kind (t ∷ ts) = if same t.text (codes "push") then (push, ts) else (if same t.text (codes "pull") then (pull, ts) else (push, t ∷ ts))

abbrev pub as_join : Pattern → Kind → Result (List Source × List Text) ℕ → Result Join ℕ
as_join output kind (Err at) = Err at
as_join output kind (Ok read) = Ok (record { output = output; kind = kind; sources = read.0; names = read.1 })

abbrev if_equals : Text → Option Bool
if_equals t = if same t (codes "=") then Some true else None

abbrev join_of_output : ℕ → Pattern → List Text → List Token → Result Join ℕ
join_of_output end output names ts = as_join output (read_kind ts).0 (read_some_sources end names (read_kind ts).1)

-- an output pattern, `=`, and the sources
abbrev pub join_of_tokens : ℕ → List Token → Result Join ℕ
join_of_tokens end ts =
    next end ts (λ o ts. accept o (read_pattern [] o.text) (λ output.
    next end ts (λ e ts. accept e (if_equals e.text) (λ _.
    join_of_output end output.0 output.1 ts))))

-- the join that a text is, or the byte at which it stops being one; a text has at most 4,096 bytes
unfoldable pub read_join : Text → Result Join ℕ
read_join text = if nat_lt 4096 (length text) then Err 4096 else join_of_tokens (length text) (tokens text)

-- ---- the canonical text

abbrev pub name_at : List Text → ℕ → Text
name_at names place = slice_index_or names place []

abbrev width_text : ℕ → Text
width_text width = if width == 0 then [] else 58 ∷ decimal width

-- a slot is printed as it was written
abbrev pub segment_print : List Text → Segment → Text
segment_print names (literal t) = t
segment_print names (slot place width) = 60 ∷ (name_at names place ++ width_text width ++ 62 ∷ [])

abbrev pub pattern_print : List Text → Pattern → Text
pattern_print names p = join_with_byte bar (map (segment_print names) p)

abbrev pub operator_word : Operator → Text
operator_word check = codes "check"
operator_word copy = codes "copy"
operator_word count = codes "count"
operator_word sum = codes "sum"
operator_word min = codes "min"
operator_word max = codes "max"

-- `push` is not printed
abbrev pub kind_words : Kind → List Text
kind_words push = []
kind_words pull = codes "pull" ∷ []

abbrev pub source_words : List Text → List Source → List Text
source_words names [] = []
source_words names (s ∷ ss) = operator_word s.operator ∷ pattern_print names s.pattern ∷ source_words names ss

-- the canonical text has one space between tokens, and none before or after
unfoldable pub canonical_text : Join → Text
canonical_text j =
    join_with_byte 32 (pattern_print j.names j.output ∷ codes "=" ∷ (kind_words j.kind ++ source_words j.names j.sources))
