-- Segments that are open, walked one by one, and texts that are cut at a character.
use Rattle.std.proofs.Common.{◌≡◌, ℕ, zero, suc, ◌+◌, ◌<◌, ◌≤◌, Bool, true, false, cond, List, [], ◌∷◌, ◌++◌, length, take, drop, get_or, Option, Some, None, option_and_then, refl, sym, ap, ◌∙◌, subst, ⊎_elim, arith}
use Rattle.std.specs.Str.{IsCharBoundary}
use Rattle.std.proofs.lemmas.Bool.{false≢true, cases_lt, false_from_ne_true, le-leb, lt-leb, le-ltb, lt-ltb}
use Rattle.std.proofs.lemmas.List.{drop_more, drop_all, take_all}
use Rattle.semantics.specs.Texts.{Text, brace, Range}
use Rattle.semantics.specs.Patterns.{Segment, literal, slot, Pattern, Slots, text_at}
use Rattle.key_ranges.specs.Containing.{open_or, first_open, has_text, open_after, shared_texts, same_width, narrowing_width, begins_character, whole_beginning, narrowed_end}
use Rattle.key_pattern.specs.Narrowing.{open_segment}
use Rattle.key_pattern.proofs.WalkLemmas.{left_at}

-- ---- the first open segment

-- the first, and otherwise the second
abbrev either_open : Option Segment → Option Segment → Option Segment
either_open None o = o
either_open (Some s) o = Some s

-- a slot, which has a text or is open
slot_by : (s : Segment) (behind : Option Segment) (o : Option Text) → open_or o s behind ≡ either_open (open_or o s None) behind
slot_by s behind None = refl
slot_by s behind (Some t) = refl

-- the first open segment is the first, or of the others
first_by : (s : Segment) (ss : Pattern) (given : Slots) → first_open (s ∷ ss) given ≡ either_open (open_segment s given) (first_open ss given)
first_by (literal l) ss given = refl
first_by (slot place width) ss given = slot_by (slot place width) (first_open ss given) (text_at place given)

-- a segment that is not open leaves it to the others
pub open_more : (p : Pattern) (given : Slots) (i : ℕ) (s : Segment) → i < length p → s ≡ get_or p i s → open_segment s given ≡ None → first_open (drop (i + 1) p) given ≡ first_open (drop i p) given
open_more p given i s within at e =
    sym (ap (λ q. first_open q given) (left_at p i s within at) ∙ first_by s (drop (i + 1) p) given ∙ ap (λ o. either_open o (first_open (drop (i + 1) p) given)) e)

-- one that is open is the first
pub open_found : (p : Pattern) (given : Slots) (i : ℕ) (s r : Segment) → i < length p → s ≡ get_or p i s → open_segment s given ≡ Some r → first_open (drop i p) given ≡ Some r
open_found p given i s r within at e =
    ap (λ q. first_open q given) (left_at p i s within at) ∙ first_by s (drop (i + 1) p) given ∙ ap (λ o. either_open o (first_open (drop (i + 1) p) given)) e

-- none is open at the end
pub open_none : (p : Pattern) (given : Slots) (i : ℕ) → length p ≤ i → first_open (drop i p) given ≡ None
open_none p given i end = ap (λ q. first_open q given) (drop_all i p end)

-- ---- the segment that follows texts

-- a segment has the text, and the walk goes on
pub after_more : (p : Pattern) (given : Slots) (i : ℕ) (s : Segment) (t : Text) (ts left : List Text) → i < length p → s ≡ get_or p i s → left ≡ t ∷ ts → has_text s t given ≡ true
    → open_after (drop (i + 1) p) ts given ≡ open_after (drop i p) left given
after_more p given i s t ts left within at e h =
    sym (ap (λ q. open_after q left given) (left_at p i s within at)
    ∙ ap (λ l. open_after (s ∷ drop (i + 1) p) l given) e
    ∙ ap (λ x. cond x (open_after (drop (i + 1) p) ts given) None) h)

-- a segment has another text
pub after_stop : (p : Pattern) (given : Slots) (i : ℕ) (s : Segment) (t : Text) (ts left : List Text) → i < length p → s ≡ get_or p i s → left ≡ t ∷ ts → has_text s t given ≡ false
    → open_after (drop i p) left given ≡ None
after_stop p given i s t ts left within at e h =
    ap (λ q. open_after q left given) (left_at p i s within at)
    ∙ ap (λ l. open_after (s ∷ drop (i + 1) p) l given) e
    ∙ ap (λ x. cond x (open_after (drop (i + 1) p) ts given) None) h

-- no text is left
pub after_found : (p : Pattern) (given : Slots) (i : ℕ) (s : Segment) (left : List Text) → i < length p → s ≡ get_or p i s → left ≡ [] → open_after (drop i p) left given ≡ Some s
after_found p given i s left within at e =
    ap (λ q. open_after q left given) (left_at p i s within at) ∙ ap (λ l. open_after (s ∷ drop (i + 1) p) l given) e

-- no segment is left
pub after_end : (p : Pattern) (given : Slots) (i : ℕ) (left : List Text) → length p ≤ i → open_after (drop i p) left given ≡ None
after_end p given i left end = ap (λ q. open_after q left given) (drop_all i p end)

-- the width that narrows, by the source's first open segment
pub width_of : (source : Pattern) (given : Slots) (output : Pattern) (range : Range) (s : Segment) (o : Option ℕ) → Some s ≡ first_open source given
    → option_and_then (same_width s) (open_after output (shared_texts range) given) ≡ o → narrowing_width source given output range ≡ o
width_of source given output range s o first h =
    ap (option_and_then (λ r. option_and_then (same_width r) (open_after output (shared_texts range) given))) (sym first) ∙ h

-- there is none where the source has no open segment
pub width_none : (source : Pattern) (given : Slots) (output : Pattern) (range : Range) → None ≡ first_open source given → narrowing_width source given output range ≡ None
width_none source given output range first =
    ap (option_and_then (λ r. option_and_then (same_width r) (open_after output (shared_texts range) given))) (sym first)

-- ---- where a character ends

-- a byte that is no later one of a character
first_byte : (b : ℕ) (more : Text) → (128 ≤ b → 192 ≤ b) → begins_character (b ∷ more) ≡ true
first_byte b more h =
    ⊎_elim (λ (low : b < 128). rw (lt-leb 128 b low))
    (λ high. rw (le-leb 128 b high, le-ltb b 192 (h high)))
    (cases_lt b 128)

-- the other way round
no_later_byte : (b : ℕ) (more : Text) → begins_character (b ∷ more) ≡ true → 128 ≤ b → 192 ≤ b
no_later_byte b more h high =
    ⊎_elim (λ (low : b < 192). absurd (false≢true (rw (le-leb 128 b high, lt-ltb b 192 low) at h)))
    (λ (top : 192 ≤ b). top)
    (cases_lt b 192)

-- what follows a boundary begins with a character
pub boundary_begins : (t : Text) (i : ℕ) → IsCharBoundary t i → begins_character (drop i t) ≡ true
boundary_begins t i h =
    ⊎_elim
    (λ (within : i < length t). subst (λ u. begins_character u ≡ true) (sym (drop_more t i 0 within)) (first_byte (get_or t i 0) (drop (i + 1) t) (h.1 within)))
    (λ end. subst (λ u. begins_character u ≡ true) (sym (drop_all i t end)) refl)
    (cases_lt i (length t))

-- the other way round
pub begins_boundary : (t : Text) (i : ℕ) → i ≤ length t → begins_character (drop i t) ≡ true → IsCharBoundary t i
begins_boundary t i within h = (within, λ less. no_later_byte (get_or t i 0) (drop (i + 1) t) (subst (λ u. begins_character u ≡ true) (drop_more t i 0 less) h))

-- a text ends at a boundary
end_boundary : (t : Text) → IsCharBoundary t (length t)
end_boundary t = (omega arith, λ less. absurd (omega arith))

-- the last boundary up to a place is not at the place
whole_before : (n kept : ℕ) (t : Text) (x : Bool) → begins_character (drop (suc n) t) ≡ x → kept < suc n → IsCharBoundary t kept → ((j : ℕ) → kept < j → j ≤ suc n → IsCharBoundary t j → ⊥)
    → whole_beginning n t ≡ take kept t → cond x (take (suc n) t) (whole_beginning n t) ≡ take kept t
whole_before n kept t false e before at none ih = ih
whole_before n kept t true e before at none ih =
    ⊎_elim
    (λ (over : length t < suc n). ⊎_elim
    (λ (less : kept < length t). absurd (none (length t) less (omega arith) (end_boundary t)))
    (λ all. take_all (suc n) t (omega arith) ∙ sym (take_all kept t all))
    (cases_lt kept (length t)))
    (λ within. absurd (none (suc n) before (omega arith) (begins_boundary t (suc n) within e)))
    (cases_lt (length t) (suc n))

-- what stands before the last boundary up to a place is the longest beginning that ends at a character
pub whole_is : (n kept : ℕ) (t : Text) → kept ≤ n → IsCharBoundary t kept → ((j : ℕ) → kept < j → j ≤ n → IsCharBoundary t j → ⊥) → whole_beginning n t ≡ take kept t
whole_is zero kept t up at none = let z : 0 ≡ kept = omega arith in ap (λ k. take k t) z
whole_is (suc n) kept t up at none =
    ⊎_elim
    (λ (before : kept < suc n). whole_before n kept t (begins_character (drop (suc n) t)) refl before at none (whole_is n kept t (omega arith) at (λ j over under. none j over (omega arith))))
    (λ over.
    let here : kept ≡ suc n = omega arith in
    ap (λ x. cond x (take (suc n) t) (whole_beginning n t)) (boundary_begins t (suc n) (subst (IsCharBoundary t) here at)) ∙ ap (λ k. take k t) (sym here))
    (cases_lt kept (suc n))

-- ---- what a narrowed last bound ends with

-- a rest of at most n bytes is taken whole
pub end_whole : (n : ℕ) (t : Text) → length t ≤ n → narrowed_end n t ≡ Some t
end_whole n t short = rw (le-leb (length t) n short)

-- a longer one is cut where its first n bytes end at a character
pub end_cut : (n : ℕ) (t : Text) → n < length t → IsCharBoundary t n → narrowed_end n t ≡ Some (take n t ++ brace ∷ [])
end_cut n t long at = rw (lt-leb (length t) n long, boundary_begins t n at)

-- and not otherwise
pub end_none : (n : ℕ) (t : Text) → n < length t → (IsCharBoundary t n → ⊥) → narrowed_end n t ≡ None
end_none n t long off =
    let within : begins_character (drop n t) ≡ false = false_from_ne_true (begins_character (drop n t)) (λ e. off (begins_boundary t n (omega arith) e)) in
    rw (lt-leb (length t) n long, within)
