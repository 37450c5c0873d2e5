-- What pieces of bytes make of the line under way.
use Rattle.std.specs.Prelude.{◌≡◌, ℕ, ◌+◌, ◌-◌, ◌≤◌, ◌==◌, List, [], ◌∷◌, ◌++◌, length, take, drop, nat_lt, Bool, true, false, if◌then◌else◌, Vec, vec_capacity}
use Rattle.std.specs.List.{list_any, position_or_len, before_first, concat}
use Rattle.std.specs.declared.alloc.Global.{Global}
use Rattle.semantics.specs.Texts.{Text}
use Rattle.protocol.specs.Lines.{line_limit, Cut, long_mark, onto_lines, last_line, lines_of}
use Rattle.request_codec.specs.declared.lines.Fed.{Fed}
use Rattle.request_codec.specs.declared.lines.Fed.TheVariants.{Line, Long, More}

-- the line under way, and whether it has ended
pub record UnderWay : Type 0 where
  pub line : Text
  pub ended : Bool

-- a list of bytes with room for the longest line holds one that has no byte 10
pub record HasRoom (bytes : Vec ℕ Global) : Type 0 where
  pub room : line_limit ≤ vec_capacity bytes
  pub short : length bytes.items ≤ line_limit
  pub no_feed : list_any (λ b. b == 10) bytes.items ≡ false

-- the byte that ends a line
abbrev pub is_feed : ℕ → Bool
is_feed b = b == 10

-- how many bytes of a piece stand before its first byte 10
abbrev pub before_feed : Text → ℕ
before_feed piece = position_or_len is_feed piece

-- how many bytes the line may still get
abbrev pub room_behind : Text → ℕ
room_behind line = line_limit - length line

-- what a piece makes of a line by the room, the number of bytes before the byte 10, and the length: those bytes have no room, or they have and it is there, or it is not
abbrev pub fed_by : ℕ → ℕ → ℕ → Fed
fed_by room before size = if nat_lt room before then Long (room + 1) else (if nat_lt before size then Line (before + 1) else More)

-- what a piece makes of the line
abbrev pub fed : Text → Text → Fed
fed line piece = fed_by (room_behind line) (before_feed piece) (length piece)

-- the line with the bytes of the piece before the byte 10, so far as there is room
abbrev pub line_fed : Text → Text → Text
line_fed line piece = take line_limit (line ++ before_first is_feed piece)

-- whether the line ends with that
abbrev pub ends : Fed → Bool
ends (Line n) = true
ends (Long n) = true
ends More = false

-- feeding: a line goes on with pieces, `ended` being whether nothing comes after them, and this is cut from them
pub data Feeds (ended : Bool) : Text → List Text → Cut → Type 0 where
  at_end : (line : Text) → Feeds ended line [] (last_line ended line)
  goes_on : (line piece : Text) (pieces : List Text) (cut : Cut) → fed line piece ≡ More → Feeds ended (line_fed line piece) pieces cut → Feeds ended line (piece ∷ pieces) cut
  ends_line : (line piece : Text) (pieces : List Text) (cut : Cut) (n : ℕ) → fed line piece ≡ Line n → Feeds ended [] (drop n piece ∷ pieces) cut → Feeds ended line (piece ∷ pieces) (onto_lines (line_fed line piece) cut)
  too_long : (line piece : Text) (pieces : List Text) (n : ℕ) → fed line piece ≡ Long n → Feeds ended line (piece ∷ pieces) long_mark

-- what is cut from pieces is the lines of the text that they make
abbrev pub CutsLines : Type 0
CutsLines = (ended : Bool) (pieces : List Text) (cut : Cut) → Feeds ended [] pieces cut → cut ≡ lines_of (concat pieces) ended

-- from any pieces something is cut
abbrev pub CutsAny : Type 0
CutsAny = (ended : Bool) (pieces : List Text) → (cut : Cut) × Feeds ended [] pieces cut
