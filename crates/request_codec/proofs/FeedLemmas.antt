-- What a piece of bytes makes of the line under way, and how the lines of the whole text follow from it.
use Rattle.std.proofs.Common.{◌≡◌, ℕ, ◌+◌, ◌-◌, ◌<◌, ◌≤◌, ◌⊎◌, inl, inr, zero, suc, List, [], ◌∷◌, ◌++◌, length, take, drop, take_all, Bool, true, false, cond, nat_lt, refl, sym, ap, ap₂, ◌∙◌, arith, append_assoc, append-nil, length-append, length-drop, eqb-true}
use Rattle.std.specs.Prelude.{position, Some, None, unwrap_or, min}
use Rattle.std.specs.List.{list_any, before_first, concat}
use Rattle.std.proofs.Math.Numerals.{one-add}
use native.Mathlib.Numerals.{unary_clauses}
use Rattle.std.proofs.Math.Seq.{take-length, take-append-add}
use Rattle.std.proofs.lemmas.Bool.{cases_lt, or_from, or_parts, lt-ltb, le-ltb, ltb-false}
use Rattle.std.proofs.lemmas.List.{take-append-drop, length-take, length-take-le}
use Rattle.std.proofs.lemmas.List.Folds.{list_any-append}
use Rattle.std.proofs.lemmas.List.Sums.{split_at_first, passes_at_first}
use Rattle.semantics.specs.Texts.{Text}
use Rattle.protocol.specs.Lines.{line_limit, Cut, long_mark, onto_lines, lines_of, last_line}
use Rattle.protocol.proofs.Cuts.{lines_of-line, lines_of-long_line, lines_of-rest, lines_of-long_rest}
use Rattle.request_codec.specs.declared.lines.Fed.{Fed}
use Rattle.request_codec.specs.declared.lines.Fed.TheVariants.{Line, Long, More}
use Rattle.request_codec.specs.Feeding.{is_feed, before_feed, room_behind, fed, line_fed, Feeds, at_end, goes_on, ends_line, too_long}

-- whether a byte 10 stands in a text
abbrev pub has_feed : Text → Bool
has_feed = list_any is_feed

-- ---- before the first byte 10

-- the bytes before the first byte 10 are among those of the piece
pub before_feed-le : (piece : Text) → before_feed piece ≤ length piece
before_feed-le [] = omega arith
before_feed-le (b ∷ bs) = grind (arith, before_feed-le bs)

-- what stands before the first byte 10, by whether the first byte is one
before_feed-cons : (b : ℕ) (bs : Text) (cut : Bool) → is_feed b ≡ cut → before_first is_feed (b ∷ bs) ≡ cond cut [] (b ∷ before_first is_feed bs)
before_feed-cons b bs true e = rw e refl
before_feed-cons b bs false e = rw (e, one-add) refl

-- the same, without the byte 10
feedless_by : (b : ℕ) (front : Text) (cut : Bool) → is_feed b ≡ cut → has_feed front ≡ false → has_feed (cond cut [] (b ∷ front)) ≡ false
feedless_by b front true e none = refl
feedless_by b front false e none = or_from _ _ e none

-- none stands before the first
pub has_feed-before : (piece : Text) → has_feed (before_first is_feed piece) ≡ false
has_feed-before [] = refl
has_feed-before (b ∷ bs) = ap has_feed (before_feed-cons b bs (is_feed b) refl) ∙ feedless_by b _ (is_feed b) refl (has_feed-before bs)

-- a text is what stands before its first byte 10, the byte, and what follows
pub split_at_feed : (piece : Text) → before_feed piece < length piece → piece ≡ before_first is_feed piece ++ 10 ∷ drop (before_feed piece + 1) piece
split_at_feed piece h =
    split_at_first is_feed piece 0 h ∙ ap (λ b. before_first is_feed piece ++ b ∷ drop (before_feed piece + 1) piece) (eqb-true _ _ (passes_at_first is_feed piece 0 h))

-- a place, or the size where it is not below it
unwrap_position_by : (before size : ℕ) (here : Bool) → (nat_lt before size ≡ here) → before ≤ size → unwrap_or (cond here (Some before) None) size ≡ before
unwrap_position_by before size true e h = refl
unwrap_position_by before size false e h = let k : size ≤ before = ltb-false before size e in omega arith

-- how many bytes stand before the first byte 10, by where it stands
pub unwrap_or-position : (piece : Text) → unwrap_or (position is_feed piece) (length piece) ≡ before_feed piece
unwrap_or-position piece = unwrap_position_by (before_feed piece) (length piece) (nat_lt (before_feed piece) (length piece)) refl (before_feed-le piece)

-- where the first byte 10 stands at the end, there is none
pub before_first-all : (piece : Text) → length piece ≤ before_feed piece → before_first is_feed piece ≡ piece
before_first-all piece h =
    let e : before_feed piece ≡ length piece = omega (arith, before_feed-le piece) in
    ap (λ n. take n piece) e ∙ take-length piece

-- how long what stands before the first byte 10 is
pub length-before_first : (piece : Text) → length (before_first is_feed piece) ≡ before_feed piece
length-before_first piece = length-take-le (before_feed piece) piece (before_feed-le piece)

-- two texts without the byte 10 are one without it
pub has_feed-both : (front back : Text) → has_feed front ≡ false → has_feed back ≡ false → has_feed (front ++ back) ≡ false
has_feed-both front back h k = list_any-append is_feed front back ∙ or_from _ _ h k

-- a byte other than 10 before a text without it
has_feed-cons : (b : ℕ) (bs : Text) (n : ℕ) → is_feed b ≡ false → has_feed (take n bs) ≡ false → has_feed (b ∷ take n bs) ≡ false
has_feed-cons b bs n e none = or_from _ _ e none

-- a beginning of a text without it is one
pub has_feed-take : (n : ℕ) (t : Text) → has_feed t ≡ false → has_feed (take n t) ≡ false
has_feed-take zero t none = refl
has_feed-take (suc n) [] none = refl
has_feed-take (suc n) (b ∷ bs) none = let parts = or_parts (is_feed b) _ none in has_feed-cons b bs n parts.0 (has_feed-take n bs parts.1)

-- ---- the three answers

-- the bytes before the byte 10 have room, and it is there
pub record IsLine (line piece : Text) (n : ℕ) : Type 0 where
  pub fits : before_feed piece ≤ room_behind line
  pub found : before_feed piece < length piece
  pub number : n ≡ before_feed piece + 1

-- they have no room
pub record IsLong (line piece : Text) (n : ℕ) : Type 0 where
  pub over : room_behind line < before_feed piece
  pub number : n ≡ room_behind line + 1

-- they have room, and it is not there
pub record IsMore (line piece : Text) : Type 0 where
  pub fits : before_feed piece ≤ room_behind line
  pub absent : length piece ≤ before_feed piece

-- the answer where the bytes have no room
fed-over : (line piece : Text) → room_behind line < before_feed piece → fed line piece ≡ Long (room_behind line + 1)
fed-over line piece h = rw (lt-ltb _ _ h) refl

-- the answer where they have and the byte 10 is there
fed-found : (line piece : Text) → before_feed piece ≤ room_behind line → before_feed piece < length piece → fed line piece ≡ Line (before_feed piece + 1)
fed-found line piece h k = rw (le-ltb _ _ h, lt-ltb _ _ k) refl

-- the answer where they have and it is not there
fed-absent : (line piece : Text) → before_feed piece ≤ room_behind line → length piece ≤ before_feed piece → fed line piece ≡ More
fed-absent line piece h k = rw (le-ltb _ _ h, le-ltb _ _ k) refl

-- which of the three holds
data FedCase (line piece : Text) : Type 0 where
  over : room_behind line < before_feed piece → FedCase line piece
  found : before_feed piece ≤ room_behind line → before_feed piece < length piece → FedCase line piece
  absent : before_feed piece ≤ room_behind line → length piece ≤ before_feed piece → FedCase line piece

-- which holds, by two comparisons
fed_case_by : (line piece : Text) → (room_behind line < before_feed piece) ⊎ (before_feed piece ≤ room_behind line) → (before_feed piece < length piece) ⊎ (length piece ≤ before_feed piece) → FedCase line piece
fed_case_by line piece (inl h) k = over h
fed_case_by line piece (inr h) (inl k) = found h k
fed_case_by line piece (inr h) (inr k) = absent h k

-- one of the three holds
fed_case : (line piece : Text) → FedCase line piece
fed_case line piece = fed_case_by line piece (cases_lt _ _) (cases_lt _ _)

-- the same, case by case
is_line_by : (line piece : Text) (n : ℕ) → fed line piece ≡ Line n → FedCase line piece → IsLine line piece n
is_line_by line piece n e (over h) = let z : Long (room_behind line + 1) ≡ Line n = sym (fed-over line piece h) ∙ e in absurd (cc)
is_line_by line piece n e (found h k) = let z : Line (before_feed piece + 1) ≡ Line n = sym (fed-found line piece h k) ∙ e in record { fits = h; found = k; number = cc }
is_line_by line piece n e (absent h k) = let z : More ≡ Line n = sym (fed-absent line piece h k) ∙ e in absurd (cc)

-- where the answer is `Line`, the byte 10 ends the line
pub is_line : (line piece : Text) (n : ℕ) → fed line piece ≡ Line n → IsLine line piece n
is_line line piece n e = is_line_by line piece n e (fed_case line piece)

-- the same, case by case
is_long_by : (line piece : Text) (n : ℕ) → fed line piece ≡ Long n → FedCase line piece → IsLong line piece n
is_long_by line piece n e (over h) = let z : Long (room_behind line + 1) ≡ Long n = sym (fed-over line piece h) ∙ e in record { over = h; number = cc }
is_long_by line piece n e (found h k) = let z : Line (before_feed piece + 1) ≡ Long n = sym (fed-found line piece h k) ∙ e in absurd (cc)
is_long_by line piece n e (absent h k) = let z : More ≡ Long n = sym (fed-absent line piece h k) ∙ e in absurd (cc)

-- where the answer is `Long`, the line is too long
pub is_long : (line piece : Text) (n : ℕ) → fed line piece ≡ Long n → IsLong line piece n
is_long line piece n e = is_long_by line piece n e (fed_case line piece)

-- the same, case by case
is_more_by : (line piece : Text) → fed line piece ≡ More → FedCase line piece → IsMore line piece
is_more_by line piece e (over h) = let z : Long (room_behind line + 1) ≡ More = sym (fed-over line piece h) ∙ e in absurd (cc)
is_more_by line piece e (found h k) = let z : Line (before_feed piece + 1) ≡ More = sym (fed-found line piece h k) ∙ e in absurd (cc)
is_more_by line piece e (absent h k) = record { fits = h; absent = k }

-- where the answer is `More`, the piece goes to the line
pub is_more : (line piece : Text) → fed line piece ≡ More → IsMore line piece
is_more line piece e = is_more_by line piece e (fed_case line piece)

-- ---- the line after a piece

-- the line without what has no room
pub line_fed-fits : (line piece : Text) → length line ≤ line_limit → before_feed piece ≤ room_behind line → line_fed line piece ≡ line ++ before_first is_feed piece
line_fed-fits line piece short h =
    take_all line_limit _ (simp length-append (rw length-before_first (omega arith)))

-- a beginning of two texts that is longer than the first
take-past : (n : ℕ) (front back : Text) → length front ≤ n → take n (front ++ back) ≡ front ++ take (n - length front) back
take-past n front back h = let e : length front + (n - length front) ≡ n = omega arith in ap (λ m. take m (front ++ back)) (sym e) ∙ take-append-add front back (n - length front)

-- a beginning of nothing
take-nil : (n : ℕ) → take {A = ℕ} n [] ≡ []
take-nil zero = refl
take-nil (suc n) = refl

-- of two beginnings the shorter
take-take : (n m : ℕ) (t : Text) → take n (take m t) ≡ take (min m n) t
take-take n zero t = simp unary_clauses (take-nil n)
take-take zero (suc m) t = simp unary_clauses refl
take-take (suc n) (suc m) [] = simp unary_clauses refl
take-take (suc n) (suc m) (b ∷ bs) = simp unary_clauses (ap (λ t. b ∷ t) (take-take n m bs))

-- the line gets as many of the bytes before the byte 10 as there is room for
pub line_fed-min : (line piece : Text) → length line ≤ line_limit → line_fed line piece ≡ line ++ take (min (before_feed piece) (room_behind line)) piece
line_fed-min line piece short =
    take-past line_limit line (before_first is_feed piece) short ∙ ap (λ t. line ++ t) (take-take (room_behind line) (before_feed piece) piece)

-- after `More` the line has the whole piece
pub line_fed-more : (line piece : Text) → length line ≤ line_limit → fed line piece ≡ More → line_fed line piece ≡ line ++ piece
line_fed-more line piece short e =
    let more = is_more line piece e in
    line_fed-fits line piece short more.fits ∙ ap (λ t. line ++ t) (before_first-all piece more.absent)

-- the line has no byte 10, whatever a piece makes of it
pub has_feed-line_fed : (line piece : Text) → has_feed line ≡ false → has_feed (line_fed line piece) ≡ false
has_feed-line_fed line piece none = has_feed-take line_limit (line ++ before_first is_feed piece) (has_feed-both line (before_first is_feed piece) none (has_feed-before piece))

-- the line is never too long
pub length-line_fed : (line piece : Text) → length (line_fed line piece) ≤ line_limit
length-line_fed line piece = omega (arith, length-take line_limit (line ++ before_first is_feed piece))

-- ---- the lines of the text

-- a piece that ends the line
pub lines_of-ends_line : (line piece rest : Text) (ended : Bool) (n : ℕ) → has_feed line ≡ false → length line ≤ line_limit → fed line piece ≡ Line n →
    lines_of (line ++ (piece ++ rest)) ended ≡ onto_lines (line_fed line piece) (lines_of (drop n piece ++ rest) ended)
lines_of-ends_line line piece rest ended n none short e =
    let is = is_line line piece n e in
    let front = line ++ before_first is_feed piece in
    let back = drop (before_feed piece + 1) piece ++ rest in
    let split : line ++ (piece ++ rest) ≡ front ++ 10 ∷ back =
    ap (λ t. line ++ (t ++ rest)) (split_at_feed piece is.found)
    ∙ ap (λ t. line ++ t) (append_assoc (before_first is_feed piece) (10 ∷ drop (before_feed piece + 1) piece) rest)
    ∙ sym (append_assoc line (before_first is_feed piece) (10 ∷ back)) in
    let fits : length front ≤ line_limit = simp length-append (rw length-before_first (let f = is.fits in omega arith)) in
    ap (λ t. lines_of t ended) split ∙ lines_of-line front back ended (has_feed-both line (before_first is_feed piece) none (has_feed-before piece)) fits
    ∙ ap₂ (λ l m. onto_lines l (lines_of (drop m piece ++ rest) ended)) (sym (line_fed-fits line piece short is.fits)) (sym is.number)

-- a text that begins with too many bytes, by whether a byte 10 follows
long_start_by : (t rest : Text) (ended : Bool) → has_feed t ≡ false → line_limit < length t → (before_feed rest < length rest) ⊎ (length rest ≤ before_feed rest) → lines_of (t ++ rest) ended ≡ long_mark
long_start_by t rest ended none long (inl here) =
    let front = t ++ before_first is_feed rest in
    let back = drop (before_feed rest + 1) rest in
    let split : t ++ rest ≡ front ++ 10 ∷ back = ap (λ u. t ++ u) (split_at_feed rest here) ∙ sym (append_assoc t (before_first is_feed rest) (10 ∷ back)) in
    ap (λ u. lines_of u ended) split ∙ lines_of-long_line front back ended (has_feed-both t (before_first is_feed rest) none (has_feed-before rest)) (omega (arith, length-append t (before_first is_feed rest)))
long_start_by t rest ended none long (inr gone) =
    let feedless : has_feed rest ≡ false = sym (ap has_feed (before_first-all rest gone)) ∙ has_feed-before rest in
    lines_of-long_rest (t ++ rest) ended (has_feed-both t rest none feedless) (omega (arith, length-append t rest))

-- a text that begins with too many bytes before a byte 10
pub lines_of-long_start : (t rest : Text) (ended : Bool) → has_feed t ≡ false → line_limit < length t → lines_of (t ++ rest) ended ≡ long_mark
lines_of-long_start t rest ended none long = long_start_by t rest ended none long (cases_lt _ _)

-- a piece that makes the line too long
pub lines_of-too_long : (line piece rest : Text) (ended : Bool) (n : ℕ) → has_feed line ≡ false → length line ≤ line_limit → fed line piece ≡ Long n →
    lines_of (line ++ (piece ++ rest)) ended ≡ long_mark
lines_of-too_long line piece rest ended n none short e =
    let is = is_long line piece n e in
    let front = line ++ before_first is_feed piece in
    let back = drop (before_feed piece) piece ++ rest in
    let split : line ++ (piece ++ rest) ≡ front ++ back =
    ap (λ t. line ++ (t ++ rest)) (sym (take-append-drop (before_feed piece) piece))
    ∙ ap (λ t. line ++ t) (append_assoc (before_first is_feed piece) (drop (before_feed piece) piece) rest)
    ∙ sym (append_assoc line (before_first is_feed piece) back) in
    let long : line_limit < length front = simp length-append (rw length-before_first (let f = is.over in omega arith)) in
    ap (λ t. lines_of t ended) split ∙ lines_of-long_start front back ended (has_feed-both line (before_first is_feed piece) none (has_feed-before piece)) long

-- a piece that goes to the line as a whole
pub lines_of-goes_on : (line piece rest : Text) (ended : Bool) → length line ≤ line_limit → fed line piece ≡ More →
    lines_of (line ++ (piece ++ rest)) ended ≡ lines_of (line_fed line piece ++ rest) ended
lines_of-goes_on line piece rest ended short e =
    ap (λ t. lines_of t ended) (sym (append_assoc line piece rest) ∙ ap (λ t. t ++ rest) (sym (line_fed-more line piece short e)))

-- what is cut from pieces behind a line is the lines of the text that they make with it
pub cut_is_lines : (ended : Bool) (line : Text) (pieces : List Text) (cut : Cut) → Feeds ended line pieces cut → has_feed line ≡ false → length line ≤ line_limit → cut ≡ lines_of (line ++ concat pieces) ended
cut_is_lines ended _ _ _ (at_end line) none short = sym (ap (λ t. lines_of t ended) (append-nil line) ∙ lines_of-rest line ended none short)
cut_is_lines ended _ _ _ (goes_on line piece pieces cut e later) none short =
    cut_is_lines ended (line_fed line piece) pieces cut later (has_feed-line_fed line piece none) (length-line_fed line piece)
    ∙ sym (lines_of-goes_on line piece (concat pieces) ended short e)
cut_is_lines ended _ _ _ (ends_line line piece pieces cut n e later) none short =
    ap (onto_lines (line_fed line piece)) (cut_is_lines ended [] (drop n piece ∷ pieces) cut later refl (omega arith))
    ∙ sym (lines_of-ends_line line piece (concat pieces) ended n none short e)
cut_is_lines ended _ _ _ (too_long line piece pieces n e) none short = sym (lines_of-too_long line piece (concat pieces) ended n none short e)

-- ---- pieces can be fed

-- something is cut from pieces behind a line
abbrev Cuts : Bool → Text → List Text → Type 0
Cuts ended line pieces = (cut : Cut) × Feeds ended line pieces cut

-- how much is left to feed
abbrev left : List Text → ℕ
left pieces = length (concat pieces) + length pieces

-- something is cut from a first piece and what follows, by the answer to the piece
cuts_by : (k : ℕ) (ended : Bool) (line piece : Text) (pieces : List Text) (given : Fed) → fed line piece ≡ given → left (piece ∷ pieces) ≤ suc k →
    ((line : Text) (pieces : List Text) → left pieces ≤ k → Cuts ended line pieces) → Cuts ended line (piece ∷ pieces)
cuts_by k ended line piece pieces More e within later =
    let rest = later (line_fed line piece) pieces (omega (arith, length-append piece (concat pieces))) in
    (rest.0, goes_on line piece pieces rest.0 e rest.1)
cuts_by k ended line piece pieces (Line n) e within later =
    let is = is_line line piece n e in
    let shorter : length (drop n piece) + 1 ≤ length piece = omega (arith, length-drop n piece, is.found, is.number) in
    let rest = later [] (drop n piece ∷ pieces) (omega (arith, length-append piece (concat pieces), length-append (drop n piece) (concat pieces))) in
    (onto_lines (line_fed line piece) rest.0, ends_line line piece pieces rest.0 n e rest.1)
cuts_by k ended line piece pieces (Long n) e within later = (long_mark, too_long line piece pieces n e)

-- something is cut from pieces of a bounded size
cuts_within : (k : ℕ) (ended : Bool) (line : Text) (pieces : List Text) → left pieces ≤ k → Cuts ended line pieces
cuts_within k ended line [] within = (last_line ended line, at_end line)
cuts_within zero ended line (piece ∷ pieces) within = absurd (omega arith)
cuts_within (suc k) ended line (piece ∷ pieces) within = cuts_by k ended line piece pieces (fed line piece) refl within (λ line pieces more. cuts_within k ended line pieces more)

-- from any pieces something is cut
pub cuts_any : (ended : Bool) (pieces : List Text) → (cut : Cut) × Feeds ended [] pieces cut
cuts_any ended pieces = cuts_within (left pieces) ended [] pieces (omega arith)
