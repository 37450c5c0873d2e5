-- Worked rows: the containing ranges of a source that are narrowed by a slot of fixed width, and those that are not, each written out.
use Rattle.std.specs.Prelude.{◌≡◌, [], ◌∷◌, ◌++◌, replicate, slice_set, true, Some, codes}
use Rattle.semantics.specs.Texts.{Text, Range, within}
use Rattle.semantics.specs.Patterns.{literal, slot, Pattern, Slots, no_slots}
use Rattle.key_ranges.specs.Containing.{containing}

-- the range of two bounds
abbrev between : Text → Text → Range
between low high = record { low = low; high = high }

-- ---- a timeline

-- `t|<user:4>|<time:8>|<poster:4>`
abbrev timeline : Pattern
timeline = literal (codes "t") ∷ slot 0 4 ∷ slot 1 8 ∷ slot 2 4 ∷ []

-- `p|<poster:4>|<time:8>`
abbrev posts : Pattern
posts = literal (codes "p") ∷ slot 2 4 ∷ slot 1 8 ∷ []

-- `s|<user:4>|<poster:4>`
abbrev follows : Pattern
follows = literal (codes "s") ∷ slot 0 4 ∷ slot 2 4 ∷ []

-- the slots of a user alone
abbrev of_user : Text → Slots
of_user user = slice_set no_slots 0 (Some user)

-- user 0001 and poster 0002
abbrev of_both : Slots
of_both = slice_set (of_user (codes "0001")) 2 (Some (codes "0002"))

-- between two times only the posts of these times are read
abbrev pub BetweenTimes : Type 0
BetweenTimes = containing posts of_both timeline (between (codes "t|0001|00000010") (codes "t|0001|00000020"))
    ≡ Some (between (codes "p|0002|00000010") (codes "p|0002|00000020"))

-- a last bound that goes on behind a time leaves all posts of that time in
abbrev pub BehindTime : Type 0
BehindTime = containing posts of_both timeline (between (codes "t|0001|00000010") (codes "t|0001|00000020|0002"))
    ≡ Some (between (codes "p|0002|00000010") (codes "p|0002|00000020}"))

-- a whole timeline asks for all posts
abbrev pub WholeTimeline : Type 0
WholeTimeline = containing posts of_both timeline (between (codes "t|0001|") (codes "t|0001}"))
    ≡ Some (between (codes "p|0002|") (codes "p|0002}"))

-- from one time on there is no last bound to narrow by
abbrev pub FromTime : Type 0
FromTime = containing posts of_both timeline (between (codes "t|0001|00000010") (codes "t|0001}"))
    ≡ Some (between (codes "p|0002|00000010") (codes "p|0002}"))

-- parts of a time narrow as well
abbrev pub PartsOfTime : Type 0
PartsOfTime = containing posts of_both timeline (between (codes "t|0001|0001") (codes "t|0001|0002"))
    ≡ Some (between (codes "p|0002|0001") (codes "p|0002|0002"))

-- an empty range of the output gives an empty one
abbrev pub NoTime : Type 0
NoTime = containing posts of_both timeline (between (codes "t|0001|00000010") (codes "t|0001|00000010"))
    ≡ Some (between (codes "p|0002|00000010") (codes "p|0002|00000010"))

-- bounds in the wrong order: the last one is not set below the first
abbrev pub WrongOrder : Type 0
WrongOrder = containing posts of_both timeline (between (codes "t|0001|00000020") (codes "t|0001|00000010"))
    ≡ Some (between (codes "p|0002|00000020") (codes "p|0002}"))

-- between two users those are read whom these users follow
abbrev pub BetweenUsers : Type 0
BetweenUsers = containing follows no_slots timeline (between (codes "t|0001") (codes "t|0003"))
    ≡ Some (between (codes "s|0001") (codes "s|0003"))

-- the posters whom a user follows are not in the order of times
abbrev pub OtherSlot : Type 0
OtherSlot = containing follows (of_user (codes "0001")) timeline (between (codes "t|0001|00000010") (codes "t|0001|00000020"))
    ≡ Some (between (codes "s|0001|") (codes "s|0001}"))

-- a slot of another width is another one
abbrev pub OtherWidth : Type 0
OtherWidth = containing (literal (codes "p") ∷ slot 2 4 ∷ slot 1 4 ∷ []) of_both timeline (between (codes "t|0001|00000010") (codes "t|0001|00000020"))
    ≡ Some (between (codes "p|0002|") (codes "p|0002}"))

-- the slots are those of another user than the range's
abbrev pub OtherUser : Type 0
OtherUser = containing posts (slice_set (of_user (codes "0003")) 2 (Some (codes "0002"))) timeline (between (codes "t|0001|00000010") (codes "t|0001|00000020"))
    ≡ Some (between (codes "p|0002|") (codes "p|0002}"))

-- ---- slots of varying width

-- `i|<n>|<k>`
abbrev varying_source : Pattern
varying_source = literal (codes "i") ∷ slot 0 0 ∷ slot 1 0 ∷ []

-- `o|<n>|<k>`
abbrev varying_output : Pattern
varying_output = literal (codes "o") ∷ slot 0 0 ∷ slot 1 0 ∷ []

-- keys are not in the order of the texts of a slot of varying width, which does not narrow: `o|10|a` lies between the bounds
abbrev pub VaryingWidth : Type 0
VaryingWidth = let range = between (codes "o|1") (codes "o|1|") in
    (within range (codes "o|10|a") ≡ true) × (containing varying_source no_slots varying_output range ≡ Some (between (codes "i|") (codes "i}")))

-- ---- bounds that end within a character

-- `i|<n:2>|<k>`
abbrev short_source : Pattern
short_source = literal (codes "i") ∷ slot 0 2 ∷ slot 1 0 ∷ []

-- `o|<n:2>|<k>`
abbrev short_output : Pattern
short_output = literal (codes "o") ∷ slot 0 2 ∷ slot 1 0 ∷ []

-- the character é, of two bytes
abbrev accented : Text
accented = 195 ∷ 169 ∷ []

-- the longest beginning of `aé` of at most two bytes that ends at a character is `a`
abbrev pub LowWithinCharacter : Type 0
LowWithinCharacter = containing short_source no_slots short_output (between (codes "o|a" ++ accented) (codes "o}"))
    ≡ Some (between (codes "i|a") (codes "i}"))

-- the first two bytes of `aé` end within a character, and the last bound stays
abbrev pub HighWithinCharacter : Type 0
HighWithinCharacter = containing short_source no_slots short_output (between (codes "o|") (codes "o|a" ++ accented))
    ≡ Some (between (codes "i|") (codes "i}"))

-- the first two bytes of `é|b` end at a character
abbrev pub HighAtCharacter : Type 0
HighAtCharacter = containing short_source no_slots short_output (between (codes "o|") (codes "o|" ++ accented ++ codes "|b"))
    ≡ Some (between (codes "i|") (codes "i|" ++ accented ++ codes "}"))

-- ---- long bounds

-- `p|<a>|<time:8>`
abbrev long_source : Pattern
long_source = literal (codes "p") ∷ slot 0 0 ∷ slot 1 8 ∷ []

-- `o|<time:8>|<a>`
abbrev long_output : Pattern
long_output = literal (codes "o") ∷ slot 1 8 ∷ slot 0 0 ∷ []

-- 508 times the letter a
abbrev many : Text
many = replicate 508 97

-- the prefix of 511 bytes that it gives, without its last `|`
abbrev long_prefix : Text
long_prefix = codes "p|" ++ many

-- bounds of 519 bytes are not used
abbrev pub TooLong : Type 0
TooLong = containing long_source (slice_set no_slots 0 (Some many)) long_output (between (codes "o|00000010") (codes "o|00000020"))
    ≡ Some (between (long_prefix ++ codes "|") (long_prefix ++ codes "}"))

-- bounds of 513 bytes are
abbrev pub LongEnough : Type 0
LongEnough = containing long_source (slice_set no_slots 0 (Some many)) long_output (between (codes "o|00") (codes "o|01"))
    ≡ Some (between (long_prefix ++ codes "|00") (long_prefix ++ codes "|01"))

-- each bound by itself
abbrev pub OneTooLong : Type 0
OneTooLong = containing long_source (slice_set no_slots 0 (Some many)) long_output (between (codes "o|00000010") (codes "o|01"))
    ≡ Some (between (long_prefix ++ codes "|") (long_prefix ++ codes "|01"))
