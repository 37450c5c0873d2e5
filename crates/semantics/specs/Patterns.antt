-- Patterns of keys: what fits, what fills, what overlaps.
use Rattle.std.specs.Prelude.{◌≡◌, ℕ, ◌&&◌, ◌||◌, ◌==◌, List, [], ◌∷◌, length, slice_get, slice_set, replicate, Bool, true, false, not, nat_lt, nat_le, if◌then◌else◌, Option, Some, None, is_some, option_map, option_and_then}
use Rattle.std.specs.List.{list_all, join_with_byte}
use Rattle.std.specs.Option.{option_flatten}
use Rattle.semantics.specs.Texts.{Text, bar, same}

-- a segment is a literal text, or a slot with its place and its width, where 0 is any width
pub data Segment : Type 0 where
  literal : Text → Segment
  slot : ℕ → ℕ → Segment

abbrev pub Pattern : Type 0
Pattern = List Segment

-- slots give texts to some of 16 places
abbrev pub Slots : Type 0
Slots = List (Option Text)

-- the slots that give no text
unfoldable pub no_slots : Slots
no_slots = replicate 16 None

-- the text that slots give to a place
abbrev pub text_at : ℕ → Slots → Option Text
text_at place given = option_flatten (slice_get given place)

-- a byte of a literal: none of `|`, `<`, `>`, the space and the characters below U+0020
abbrev pub is_literal_byte : ℕ → Bool
is_literal_byte b = nat_lt 32 b && not (b == 60) && not (b == 62) && not (b == bar)

-- a literal has one byte or more
abbrev pub is_literal : Text → Bool
is_literal t = nat_le 1 (length t) && list_all is_literal_byte t

-- a segment that may stand in a pattern: its literal is one, its place is below 16, its width at most 64
abbrev pub is_segment : Segment → Bool
is_segment (literal t) = is_literal t
is_segment (slot place width) = nat_lt place 16 && nat_le width 64

-- the first segment is a literal of at most 64 bytes, the table's name
abbrev pub begins_with_table : Pattern → Bool
begins_with_table [] = false
begins_with_table (literal t ∷ ss) = nat_le (length t) 64
begins_with_table (slot place width ∷ ss) = false

-- a pattern has 2 to 16 segments, the first of which names the table
abbrev pub is_pattern : Pattern → Bool
is_pattern p = nat_le 2 (length p) && nat_le (length p) 16 && begins_with_table p && list_all is_segment p

-- a text before the first piece
abbrev onto_first : ℕ → List Text → List Text
onto_first b [] = (b ∷ []) ∷ []
onto_first b (t ∷ ts) = (b ∷ t) ∷ ts

-- the byte begins a new piece, or goes on with the first of those after it
abbrev cut_or_join : Bool → ℕ → List Text → List Text
cut_or_join true b ts = [] ∷ ts
cut_or_join false b ts = onto_first b ts

-- the pieces of a text between the bytes c
abbrev pub pieces : ℕ → Text → List Text
pieces c [] = [] ∷ []
pieces c (b ∷ bs) = cut_or_join (b == c) b (pieces c bs)

-- a key's segments stand between its bytes `|`
abbrev pub segments : Text → List Text
segments = pieces bar

-- whether a slot of a width takes a text: it is not empty, and has the width where one is asked
abbrev pub takes_width : ℕ → Text → Bool
takes_width width t = nat_le 1 (length t) && (width == 0 || (length t == width))

-- ---- `Fits`, as a relation

-- the slots give the segment this text
abbrev pub Takes : Segment → Text → Slots → Type 0
Takes (literal l) t given = l ≡ t
Takes (slot place width) t given = (takes_width width t ≡ true) × (text_at place given ≡ Some t)

abbrev pub TakeAll : Pattern → List Text → Slots → Type 0
TakeAll [] [] given = Unit {0}
TakeAll [] (t ∷ ts) given = ⊥
TakeAll (s ∷ ss) [] given = ⊥
TakeAll (s ∷ ss) (t ∷ ts) given = Takes s t given × TakeAll ss ts given

-- the key fits the pattern under the slots: as many segments, equal literals, and each slot gives its segment
abbrev pub Fits : Pattern → Text → Slots → Type 0
Fits p key given = TakeAll p (segments key) given

-- the second slots give the same text wherever the first give one
abbrev pub IsPartOf : Slots → Slots → Type 0
IsPartOf given more = (place : ℕ) (t : Text) → text_at place given ≡ Some t → text_at place more ≡ Some t

-- ---- `Fits`, computed: the least slots

-- the slots with this text at a place, unless another one stands there
abbrev given_at : Option Text → ℕ → Text → Slots → Option Slots
given_at None place t given = Some (slice_set given place (Some t))
given_at (Some u) place t given = if same u t then Some given else None

-- the slots after a segment has taken a text
abbrev pub taken : Segment → Text → Slots → Option Slots
taken (literal l) t given = if same l t then Some given else None
taken (slot place width) t given = if takes_width width t then given_at (text_at place given) place t given else None

-- the slots after the segments have taken the texts, one each
abbrev pub take_all : Pattern → List Text → Slots → Option Slots
take_all [] [] given = Some given
take_all [] (t ∷ ts) given = None
take_all (s ∷ ss) [] given = None
take_all (s ∷ ss) (t ∷ ts) given = option_and_then (λ more. take_all ss ts more) (taken s t given)

-- the given slots with those of the key added; none where the key does not fit or disagrees with a given slot
abbrev pub bind : Pattern → Text → Slots → Option Slots
bind p key given = take_all p (segments key) given

-- whether a key fits a pattern under some slots
abbrev pub fits : Pattern → Text → Bool
fits p key = is_some (bind p key no_slots)

-- ---- `Fill`

-- the text, where it has the width
abbrev of_width : ℕ → Text → Option Text
of_width width t = if takes_width width t then Some t else None

-- the text that a segment has under the slots
abbrev pub segment_text : Segment → Slots → Option Text
segment_text (literal l) given = Some l
segment_text (slot place width) given = option_and_then (of_width width) (text_at place given)

-- the texts of all segments under the slots, where each has one
abbrev pub segment_texts : Pattern → Slots → Option (List Text)
segment_texts [] given = Some []
segment_texts (s ∷ ss) given = option_and_then (λ t. option_map (λ ts. t ∷ ts) (segment_texts ss given)) (segment_text s given)

-- a text of at most 512 bytes
abbrev pub short : Text → Option Text
short t = if nat_le (length t) 512 then Some t else None

-- the key that fits the pattern under the slots, for slot texts without `|`; none where it would have more than 512 bytes, or a slot has no text of its width
abbrev pub fill : Pattern → Slots → Option Text
fill p given = option_and_then (λ ts. short (join_with_byte bar ts)) (segment_texts p given)

-- ---- `Overlap`

-- a literal has the width that is asked
abbrev pub has_width : ℕ → Text → Bool
has_width width l = width == 0 || (length l == width)

-- no two unequal literals, no two unequal given widths, no literal whose length is not the other's given width
abbrev pub segments_meet : Segment → Segment → Bool
segments_meet (literal l) (literal m) = same l m
segments_meet (literal l) (slot place width) = has_width width l
segments_meet (slot place width) (literal l) = has_width width l
segments_meet (slot place width) (slot other asked) = width == 0 || (asked == 0) || (width == asked)

-- two patterns overlap where they have as many segments, and those of each place meet
abbrev pub overlaps : Pattern → Pattern → Bool
overlaps [] [] = true
overlaps [] (t ∷ ts) = false
overlaps (s ∷ ss) [] = false
overlaps (s ∷ ss) (t ∷ ts) = segments_meet s t && overlaps ss ts
