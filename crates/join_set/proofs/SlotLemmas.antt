-- Tests of slots, segment by segment and source by source.
use Rattle.std.proofs.Common.{◌≡◌, ℕ, List, [], ◌∷◌, map, Bool, false, ◌&&◌, ◌||◌, ◌++◌, refl, sym, ap, ◌∙◌}
use Rattle.std.specs.List.{list_any, list_all}
use Rattle.std.proofs.lemmas.List.Folds.{list_any-append, list_all-map}
use Rattle.semantics.specs.Patterns.{literal, slot, Pattern}
use Rattle.semantics.specs.Joins.{Source, slots_of, source_slots_of}
use Rattle.key_pattern.specs.declared.segment.Segment as code
use Rattle.key_pattern.specs.Plain.{plain_segment, plain_segments}
use Rattle.join_set.specs.SlotTests.{is_slot_with, is_no_slot_without}

-- some element of a mapped list
list_any-map : {X Y : Type 0} (p : X → Bool) (h : Y → X) (ys : List Y) → list_any p (map h ys) ≡ list_any (λ y. p (h y)) ys
list_any-map p h [] = refl
list_any-map p h (y ∷ ys) = ap (λ b. p (h y) || b) (list_any-map p h ys)

-- some segment is a slot that passes exactly where some slot does
list_any-slots : (test : ℕ × ℕ → Bool) (pattern : Pattern) → list_any (is_slot_with test) pattern ≡ list_any test (slots_of pattern)
list_any-slots test [] = refl
list_any-slots test (literal l ∷ ss) = list_any-slots test ss
list_any-slots test (slot place width ∷ ss) = ap (λ b. test (place, width) || b) (list_any-slots test ss)

-- each segment is no slot that fails exactly where each slot passes
list_all-slots : (test : ℕ × ℕ → Bool) (pattern : Pattern) → list_all (is_no_slot_without test) pattern ≡ list_all test (slots_of pattern)
list_all-slots test [] = refl
list_all-slots test (literal l ∷ ss) = list_all-slots test ss
list_all-slots test (slot place width ∷ ss) = ap (λ b. test (place, width) && b) (list_all-slots test ss)

-- the same of segments with their texts
pub any_slots : (test : ℕ × ℕ → Bool) (segments : List code.Segment) (pattern : Pattern) → plain_segments segments ≡ pattern →
    list_any (λ s. is_slot_with test (plain_segment s)) segments ≡ list_any test (slots_of pattern)
any_slots test segments pattern e = sym (list_any-map (is_slot_with test) plain_segment segments) ∙ ap (λ p. list_any (is_slot_with test) p) e ∙ list_any-slots test pattern

-- the same of segments with their texts
pub all_slots : (test : ℕ × ℕ → Bool) (segments : List code.Segment) (pattern : Pattern) → plain_segments segments ≡ pattern →
    list_all (λ s. is_no_slot_without test (plain_segment s)) segments ≡ list_all test (slots_of pattern)
all_slots test segments pattern e = sym (list_all-map (is_no_slot_without test) plain_segment segments) ∙ ap (λ p. list_all (is_no_slot_without test) p) e ∙ list_all-slots test pattern

-- some source has a slot that passes exactly where some slot of the sources does
pub any_source_slots : (test : ℕ × ℕ → Bool) (sources : List Source) → list_any (λ s. list_any test (slots_of s.pattern)) sources ≡ list_any test (source_slots_of sources)
any_source_slots test [] = refl
any_source_slots test (s ∷ sources) =
    ap (λ b. list_any test (slots_of s.pattern) || b) (any_source_slots test sources)
    ∙ sym (list_any-append test (slots_of s.pattern) (source_slots_of sources))

-- where none of the first passes, some of both passes exactly where some of the second does
pub any_later : {X : Type 0} (test : X → Bool) (xs ys : List X) (b : Bool) → list_any test xs ≡ false → b ≡ list_any test ys → b ≡ list_any test (xs ++ ys)
any_later test xs ys b none e = e ∙ sym (list_any-append test xs ys ∙ ap (λ t. t || list_any test ys) none)
