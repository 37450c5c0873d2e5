-- Patterns that are walked segment by segment.
use Rattle.std.proofs.Common.{◌≡◌, ℕ, zero, suc, ◌+◌, ◌<◌, ◌≤◌, Bool, true, false, ◌&&◌, List, [], ◌∷◌, length, map, fold, take, drop, get_or, Some, None, option_and_then, refl, sym, ap, ◌∙◌, arith}
use Rattle.std.specs.List.{list_all}
use Rattle.std.proofs.lemmas.Bool.{and_parts, false≢true, false_from_ne_true}
use Rattle.std.proofs.lemmas.List.{length-map, drop_more, drop_all, get_or-map}
use Rattle.std.proofs.lemmas.List.Sums.{fold_more}
use Rattle.semantics.specs.Texts.{Text, bar}
use Rattle.semantics.specs.Patterns.{Segment, Pattern, Slots, is_segment, is_pattern, segments, segments_meet, taken, take_all, overlaps}
use Rattle.semantics.proofs.PatternLemmas.{segments_of_pattern}
use Rattle.semantics.proofs.PieceLemmas.{parts_of}
use Rattle.key_ranges.specs.Containing.{take_first}
use Rattle.key_pattern.specs.Plain.{plain_segment, plain_segments}
use Rattle.key_pattern.specs.declared.segment.Segment as item

-- the element at a place, as f sees it
pub seen_at : {A B : Type 0} (f : A → B) (xs : List A) (i : ℕ) (x : A) → i < length xs → x ≡ get_or xs i x → f x ≡ get_or (map f xs) i (f x)
seen_at f xs i x within at = ap f at ∙ sym (get_or-map f xs i x (f x) within)

-- what is left of a pattern begins with the segment there
pub left_at : (p : Pattern) (i : ℕ) (s : Segment) → i < length p → s ≡ get_or p i s → drop i p ≡ s ∷ drop (i + 1) p
left_at p i s within at = drop_more p i s within ∙ ap (λ r. r ∷ drop (i + 1) p) (sym at)

-- the element at a place passes, where all do
pub passes_at : {A : Type 0} (test : A → Bool) (xs : List A) (i : ℕ) (x : A) → list_all test xs ≡ true → i < length xs → x ≡ get_or xs i x → test x ≡ true
passes_at test [] i x h within at = absurd (omega arith)
passes_at test (y ∷ ys) zero x h within at = ap test at ∙ (and_parts (test y) (list_all test ys) h).0
passes_at test (y ∷ ys) (suc i) x h within at = passes_at test ys i x (and_parts (test y) (list_all test ys) h).1 (omega arith) at

-- the segment at a place of a pattern may stand in one
pub segment_at : (items : List item.Segment) (p : Pattern) (i : ℕ) (x : item.Segment) → plain_segments items ≡ p → is_pattern p ≡ true → i < length items → x ≡ get_or items i x → is_segment (plain_segment x) ≡ true
segment_at items p i x view ok within at =
    let fine : list_all is_segment (plain_segments items) ≡ true = ap (list_all is_segment) view ∙ segments_of_pattern p ok in
    passes_at is_segment (plain_segments items) i (plain_segment x) fine (omega (arith, within, length-map items plain_segment)) (seen_at plain_segment items i x within at)

-- a fold that has come to the element at a place goes one further
pub folded_more : {A B : Type 0} (f : B → A → B) (a now next : B) (xs : List A) (i : ℕ) (x : A) → i < length xs → x ≡ get_or xs i x → now ≡ fold f a (take i xs) → next ≡ f now x → next ≡ fold f a (take (i + 1) xs)
folded_more f a now next xs i x within at h e =
    e ∙ ap (λ b. f b x) h ∙ ap (f (fold f a (take i xs))) at ∙ sym (fold_more f a xs i x within)

-- ---- a key

-- a segment takes its text, and the walk goes on
pub walk_more : (p : Pattern) (i : ℕ) (s : Segment) (t : Text) (ts left : List Text) (found more : Slots) → i < length p → s ≡ get_or p i s → left ≡ t ∷ ts
    → taken s t found ≡ Some more → take_all (drop (i + 1) p) ts more ≡ take_all (drop i p) left found
walk_more p i s t ts left found more within at e h =
    sym (ap (λ q. take_all q left found) (left_at p i s within at)
    ∙ ap (λ l. take_all (s ∷ drop (i + 1) p) l found) e
    ∙ ap (λ o. option_and_then (λ m. take_all (drop (i + 1) p) ts m) o) h)

-- a segment does not take its text
pub walk_stop : (p : Pattern) (i : ℕ) (s : Segment) (t : Text) (ts left : List Text) (found : Slots) → i < length p → s ≡ get_or p i s → left ≡ t ∷ ts
    → taken s t found ≡ None → take_all (drop i p) left found ≡ None
walk_stop p i s t ts left found within at e h =
    ap (λ q. take_all q left found) (left_at p i s within at)
    ∙ ap (λ l. take_all (s ∷ drop (i + 1) p) l found) e
    ∙ ap (λ o. option_and_then (λ m. take_all (drop (i + 1) p) ts m) o) h

-- no text is left for a segment
pub walk_short : (p : Pattern) (i : ℕ) (found : Slots) → i < length p → take_all (drop i p) [] found ≡ None
walk_short [] i found within = absurd (omega arith)
walk_short (s ∷ ss) zero found within = refl
walk_short (s ∷ ss) (suc i) found within = walk_short ss i found (omega arith)

-- segments and texts end together
pub walk_end : (p : Pattern) (i : ℕ) (found : Slots) → length p ≤ i → take_all (drop i p) [] found ≡ Some found
walk_end p i found end = ap (λ q. take_all q [] found) (drop_all i p end)

-- a text is left when the segments end
pub walk_long : (p : Pattern) (i : ℕ) (rest : Text) (found : Slots) → length p ≤ i → take_all (drop i p) (segments rest) found ≡ None
walk_long p i rest found end =
    let parts = parts_of bar rest in
    ap (λ q. take_all q (segments rest) found) (drop_all i p end) ∙ ap (λ l. take_all [] l found) parts.2

-- ---- the first segments

-- a segment takes its text, and the walk goes on
pub first_more : (p : Pattern) (i : ℕ) (s : Segment) (t : Text) (ts left : List Text) (found more : Slots) → i < length p → s ≡ get_or p i s → left ≡ t ∷ ts
    → taken s t found ≡ Some more → take_first (drop (i + 1) p) ts more ≡ take_first (drop i p) left found
first_more p i s t ts left found more within at e h =
    sym (ap (λ q. take_first q left found) (left_at p i s within at)
    ∙ ap (λ l. take_first (s ∷ drop (i + 1) p) l found) e
    ∙ ap (λ o. option_and_then (λ m. take_first (drop (i + 1) p) ts m) o) h)

-- a segment does not take its text
pub first_stop : (p : Pattern) (i : ℕ) (s : Segment) (t : Text) (ts left : List Text) (found : Slots) → i < length p → s ≡ get_or p i s → left ≡ t ∷ ts
    → taken s t found ≡ None → take_first (drop i p) left found ≡ None
first_stop p i s t ts left found within at e h =
    ap (λ q. take_first q left found) (left_at p i s within at)
    ∙ ap (λ l. take_first (s ∷ drop (i + 1) p) l found) e
    ∙ ap (λ o. option_and_then (λ m. take_first (drop (i + 1) p) ts m) o) h

-- no text is left for a segment
pub first_end : (p : Pattern) (i : ℕ) (s : Segment) (left : List Text) (found : Slots) → i < length p → s ≡ get_or p i s → left ≡ [] → take_first (drop i p) left found ≡ Some found
first_end p i s left found within at e =
    ap (λ q. take_first q left found) (left_at p i s within at) ∙ ap (λ l. take_first (s ∷ drop (i + 1) p) l found) e

-- ---- two patterns

-- the segments at a place are met, and then the others
pub meet_more : (p q : Pattern) (i : ℕ) (s r : Segment) → i < length p → i < length q → s ≡ get_or p i s → r ≡ get_or q i r
    → overlaps (drop i p) (drop i q) ≡ (segments_meet s r && overlaps (drop (i + 1) p) (drop (i + 1) q))
meet_more p q i s r within inside at beside =
    ap (λ x. overlaps x (drop i q)) (left_at p i s within at) ∙ ap (λ y. overlaps (s ∷ drop (i + 1) p) y) (left_at q i r inside beside)

-- segments that do not meet tell that the patterns do not overlap
pub meet_stop : (p q : Pattern) (i : ℕ) (s r : Segment) → i < length p → i < length q → s ≡ get_or p i s → r ≡ get_or q i r
    → segments_meet s r ≡ false → overlaps (drop i p) (drop i q) ≡ overlaps p q → overlaps p q ≡ false
meet_stop p q i s r within inside at beside e h =
    sym h ∙ meet_more p q i s r within inside at beside ∙ ap (λ b. b && overlaps (drop (i + 1) p) (drop (i + 1) q)) e

-- segments that meet leave it to the others
pub meet_next : (p q : Pattern) (i : ℕ) (s r : Segment) → i < length p → i < length q → s ≡ get_or p i s → r ≡ get_or q i r
    → segments_meet s r ≡ true → overlaps (drop i p) (drop i q) ≡ overlaps p q → overlaps (drop (i + 1) p) (drop (i + 1) q) ≡ overlaps p q
meet_next p q i s r within inside at beside e h =
    sym (meet_more p q i s r within inside at beside ∙ ap (λ b. b && overlaps (drop (i + 1) p) (drop (i + 1) q)) e) ∙ h

-- patterns that overlap have as many segments
pub overlaps_long : (p q : Pattern) → overlaps p q ≡ true → length p ≡ length q
overlaps_long [] [] h = refl
overlaps_long [] (t ∷ ts) h = absurd (false≢true h)
overlaps_long (s ∷ ss) [] h = absurd (false≢true h)
overlaps_long (s ∷ ss) (t ∷ ts) h = ap suc (overlaps_long ss ts (and_parts (segments_meet s t) (overlaps ss ts) h).1)

-- patterns that have not as many segments do not overlap
pub overlaps_unlike : (p q : Pattern) → (length p ≡ length q → ⊥) → overlaps p q ≡ false
overlaps_unlike p q h = false_from_ne_true (overlaps p q) (λ e. h (overlaps_long p q e))
