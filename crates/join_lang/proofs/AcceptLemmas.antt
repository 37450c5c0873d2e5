-- Every join that may be written is read back from its canonical text.
use Rattle.std.proofs.Common.{◌≡◌, ℕ, zero, suc, ◌+◌, ◌<◌, ◌≤◌, ◌⊎◌, inl, inr, Bool, true, false, ◌&&◌, ◌==◌, ne_eqb, nat_le, nat_lt, le-leb, leb-true, List, [], ◌∷◌, ◌++◌, length, map, get_or, take, codes, decimal, Some, Ok, refl, sym, ap, subst, ◌∙◌, arith, length-append}
use Rattle.std.specs.List.{list_all, list_any, position_or_len, join_with_byte, AllByRecursion, IsDistinct}
use Rattle.std.proofs.Math.Numerals.{one-add}
use Rattle.std.proofs.Math.Seq.{take-length}
use Rattle.std.proofs.lemmas.Bool.{and_parts, or_from, cond-false, lt-ltb, false≢true, true≢false, false_from_ne_true}
use Rattle.std.proofs.lemmas.List.{append-nil, take_more, length-take-le}
use Rattle.std.proofs.lemmas.List.Elements.{All-from_recursion}
use Rattle.std.proofs.lemmas.List.Folds.{list_any-append}
use Rattle.semantics.specs.Texts.{Text, same, bar}
use Rattle.semantics.specs.Patterns.{Segment, literal, slot, Pattern, is_literal_byte, is_segment, is_pattern, segments}
use Rattle.semantics.specs.Joins.{Operator, check, copy, count, sum, min, max, Kind, push, pull, Source, slots_of, source_slots_of}
use Rattle.semantics.specs.Outputs.{is_digit}
use Rattle.semantics.proofs.PieceLemmas.{Lacks, same_itself, equal_by_same, same_by_equal, pieces-join}
use Rattle.semantics.proofs.PatternLemmas.{segments_of_pattern}
use Rattle.semantics.proofs.OutputLemmas.{output_of_join, sources_of_join}
use Rattle.protocol.specs.JoinText.{placed, is_name_byte, is_name, place_among, slot_named, slot_of_body, is_bracketed, read_segment, read_segments, read_pattern, operator_of, read_sources, read_some_sources, read_kind, join_of_tokens, name_at, segment_print, pattern_print, operator_word, kind_words, source_words, canonical_text}
use Rattle.join_lang.specs.JoinTextLaws.{AreInOrder, ReadsEachWritable}
use Rattle.join_lang.proofs.DigitLemmas.{width_of-decimal, digits-decimal}
use Rattle.join_lang.proofs.SegmentLemmas.{unbracketed_by_first, body_is, parts_at, has_byte_at}
use Rattle.join_lang.proofs.JoinLemmas.{short_text, join_back}
use Rattle.join_lang.proofs.ReadLemmas.{width_print}
use Rattle.join_lang.proofs.BackLemmas.{IsTokenText, tokens_joined, texts_placed, after_kind, kind_again}

-- ---- names

-- names, each of them once, of which there are at most 16
record AreNames (all : List Text) : Type 0 where
  named : list_all is_name all ≡ true
  distinct : IsDistinct same all
  few : length all ≤ 16

-- the name at a place
name_within : (all : List Text) (place : ℕ) → list_all is_name all ≡ true → place < length all → is_name (get_or all place []) ≡ true
name_within [] place h l = absurd (omega arith)
name_within (t ∷ ts) zero h l = (and_parts (is_name t) (list_all is_name ts) h).0
name_within (t ∷ ts) (suc place) h l = name_within ts place (and_parts (is_name t) (list_all is_name ts) h).1 (omega arith)

-- what holds of each text holds of the one at a place
text_at_place : (P : Text → Type 0) (ts : List Text) (place : ℕ) → AllByRecursion P ts → place < length ts → P (get_or ts place [])
text_at_place P [] place h l = absurd (omega arith)
text_at_place P (t ∷ ts) zero h l = h.0
text_at_place P (t ∷ ts) (suc place) h l = text_at_place P ts place h.1 (omega arith)

-- texts that differ do so both ways
differs_back : (t u : Text) → same t u ≡ false → same u t ≡ false
differs_back t u h = false_from_ne_true (same u t) (λ e. true≢false (sym (same_by_equal t u (sym (equal_by_same u t e))) ∙ h))

-- the name at a later place is not the first
later_differs : (t : Text) (ts : List Text) (place : ℕ) → IsDistinct same (t ∷ ts) → place < length ts → same (get_or ts place []) t ≡ false
unfolding IsDistinct
later_differs t ts place h l = differs_back t (get_or ts place []) (text_at_place (λ u. same t u ≡ false) ts place h.0 l)

distinct_rest : (t : Text) (ts : List Text) → IsDistinct same (t ∷ ts) → IsDistinct same ts
unfolding IsDistinct
distinct_rest t ts h = h.1

-- a name that stands before a place is found there
found_place : (all : List Text) (place n : ℕ) → IsDistinct same all → place < n → n ≤ length all →
    (list_any (same (get_or all place [])) (take n all) ≡ true) × (position_or_len (same (get_or all place [])) (take n all) ≡ place)
found_place [] place n h l m = absurd (omega arith)
found_place (t ∷ ts) place zero h l m = absurd (omega arith)
found_place (t ∷ ts) zero (suc n) h l m = rw (same_itself t) (refl, refl)
found_place (t ∷ ts) (suc place) (suc n) h l m =
    let more = found_place ts place n (distinct_rest t ts h) (omega arith) (omega arith) in
    rw (later_differs t ts place h (omega arith), one-add) (more.0, ap suc more.1)

-- a name stands at no place before its own
fresh_name : (all : List Text) (n : ℕ) → IsDistinct same all → n < length all → list_any (same (get_or all n [])) (take n all) ≡ false
fresh_name [] n h l = absurd (omega arith)
fresh_name (t ∷ ts) zero h l = refl
fresh_name (t ∷ ts) (suc n) h l = or_from _ _ (later_differs t ts n h (omega arith)) (fresh_name ts n (distinct_rest t ts h) (omega arith))

-- the place of a name that was there before
old_place : (all : List Text) (place n : ℕ) → AreNames all → place < n → n ≤ length all → place_among (take n all) (get_or all place []) ≡ Some (place, take n all)
old_place all place n names l m =
    let found = found_place all place n names.distinct l m in
    rw found.0 (ap (λ p. Some (p, take n all)) found.1)

-- the place of a new name
new_place : (all : List Text) (n : ℕ) → AreNames all → n < length all → place_among (take n all) (get_or all n []) ≡ Some (n, take (n + 1) all)
new_place all n names l =
    let long : length (take n all) ≡ n = length-take-le n all (omega arith) in
    let few = names.few in
    rw (fresh_name all n names.distinct l, long, lt-ltb n 16 (omega arith)) (ap (λ ns. Some (n, ns)) (sym (take_more all n [] l)))

-- the next names of a text in which a slot of this place comes next
abbrev IsNext : ℕ → ℕ → ℕ → Type 0
IsNext n place m = ((place < n) × (n ≡ m)) ⊎ ((place ≡ n) × (n + 1 ≡ m))

-- the place of the name that comes next
next_place : (all : List Text) (place n m : ℕ) → AreNames all → IsNext n place m → m ≤ length all → place_among (take n all) (get_or all place []) ≡ Some (place, take m all)
next_place all place n m names (inl h) l = old_place all place n names h.0 (omega (arith, h.1)) ∙ ap (λ k. Some (place, take k all)) h.1
next_place all place n m names (inr h) l =
    subst (λ p. place_among (take n all) (get_or all p []) ≡ Some (p, take m all)) (sym h.0)
    (new_place all n names (omega (arith, h.1)) ∙ ap (λ k. Some (n, take k all)) h.1)

-- a place that comes next is that of a name
next_within : (n place m k : ℕ) → IsNext n place m → m ≤ k → place < k
next_within n place m k (inl h) l = omega (arith, h.0, h.1)
next_within n place m k (inr h) l = omega (arith, h.0, h.1)

-- ---- bytes that a text lacks

-- a text all of whose bytes pass a test lacks a byte that does not
lacks_from_test : (q : ℕ → Bool) (c : ℕ) (t : Text) → q c ≡ false → list_all q t ≡ true → Lacks c t
lacks_from_test q c [] e h = refl
lacks_from_test q c (b ∷ bs) e h =
    let parts = and_parts (q b) (list_all q bs) h in
    or_from _ _ (ne_eqb b c (λ s. absurd (true≢false (sym (subst (λ x. q x ≡ true) s parts.0) ∙ e)))) (lacks_from_test q c bs e parts.1)

lacks-append : (c : ℕ) (t u : Text) → Lacks c t → Lacks c u → Lacks c (t ++ u)
lacks-append c t u h k = list_any-append (λ b. b == c) t u ∙ or_from _ _ h k

lacks_joined : (c d : ℕ) (ts : List Text) → (d == c) ≡ false → AllByRecursion (Lacks c) ts → Lacks c (join_with_byte d ts)
lacks_joined c d [] e h = refl
lacks_joined c d (t ∷ []) e h = h.0
lacks_joined c d (t ∷ u ∷ us) e h = lacks-append c t (d ∷ join_with_byte d (u ∷ us)) h.0 (or_from _ _ e (lacks_joined c d (u ∷ us) e h.1))

-- a byte that stands in no literal, no name and no width, and is none of `<`, `:` and `>`
record IsApart (c : ℕ) : Type 0 where
  literals : is_literal_byte c ≡ false
  names : is_name_byte c ≡ false
  digits : is_digit c ≡ false
  opens : (60 == c) ≡ false
  colon : (58 == c) ≡ false
  closes : (62 == c) ≡ false

bar_apart : IsApart 124
bar_apart = record { literals = refl; names = refl; digits = refl; opens = refl; colon = refl; closes = refl }

space_apart : IsApart 32
space_apart = record { literals = refl; names = refl; digits = refl; opens = refl; colon = refl; closes = refl }

name_bytes : (t : Text) → is_name t ≡ true → list_all is_name_byte t ≡ true
name_bytes t h = (and_parts (nat_le 1 (length t) && nat_le (length t) 32) (list_all is_name_byte t) h).1

-- a width that is asked is printed behind `:`
width_print-some : (width : ℕ) → 0 < width → width_print width ≡ 58 ∷ decimal width
width_print-some width some = cond-false (width == 0) [] (58 ∷ decimal width) (ne_eqb width 0 (λ e. absurd (omega arith)))

width_lacks : (c width : ℕ) → IsApart c → width ≤ 64 → Lacks c (width_print width)
width_lacks c zero a h = refl
width_lacks c (suc w) a h =
    subst (Lacks c) (sym (width_print-some (suc w) (omega arith))) (or_from _ _ a.colon (lacks_from_test is_digit c (decimal (suc w)) a.digits (digits-decimal (suc w) h)))

-- a segment as it is printed lacks such a byte
segment_lacks : (c : ℕ) (all : List Text) (s : Segment) → IsApart c → list_all is_name all ≡ true → is_segment s ≡ true → ((place width : ℕ) → s ≡ slot place width → place < length all) →
    Lacks c (segment_print all s)
segment_lacks c all (literal t) a named is within = lacks_from_test is_literal_byte c t a.literals (and_parts (nat_le 1 (length t)) (list_all is_literal_byte t) is).1
segment_lacks c all (slot place width) a named is within =
    let parts = and_parts (nat_lt place 16) (nat_le width 64) is in
    let name = name_within all place named (within place width refl) in
    or_from _ _ a.opens
    (lacks-append c (name_at all place ++ width_print width) (62 ∷ [])
    (lacks-append c (name_at all place) (width_print width) (lacks_from_test is_name_byte c (name_at all place) a.names (name_bytes (name_at all place) name)) (width_lacks c width a (leb-true width 64 parts.1)))
    (or_from _ _ a.closes refl))

-- ---- a slot

-- what stands between `<` and `>` is read as the slot
body_back : (all : List Text) (place width n m : ℕ) → AreNames all → IsNext n place m → m ≤ length all → width ≤ 64 →
    slot_of_body (take n all) (name_at all place ++ width_print width) ≡ Some (slot place width, take m all)
body_back all place width n m names next l short = by_width all place width n m names next l short (name_within all place names.named (next_within n place m (length all) next l))
  where
    named_back : (all : List Text) (place width n m : ℕ) → AreNames all → IsNext n place m → m ≤ length all → is_name (get_or all place []) ≡ true →
        slot_named (take n all) (get_or all place []) width ≡ Some (slot place width, take m all)
    named_back all place width n m names next l is = rw (is, next_place all place n m names next l) refl

    by_width : (all : List Text) (place width n m : ℕ) → AreNames all → IsNext n place m → m ≤ length all → width ≤ 64 → is_name (get_or all place []) ≡ true →
        slot_of_body (take n all) (name_at all place ++ width_print width) ≡ Some (slot place width, take m all)
    by_width all place zero n m names next l short is =
        let name = get_or all place [] in
        let none = lacks_from_test is_name_byte 58 name refl (name_bytes name is) in
        ap (slot_of_body (take n all)) (append-nil name) ∙ rw none (named_back all place 0 n m names next l is)
    by_width all place (suc w) n m names next l short is =
        let name = get_or all place [] in
        let none = lacks_from_test is_name_byte 58 name refl (name_bytes name is) in
        let parts = parts_at 58 name (decimal (suc w)) none in
        ap (λ x. slot_of_body (take n all) (name ++ x)) (width_print-some (suc w) (omega arith))
        ∙ rw (has_byte_at 58 name (decimal (suc w)), parts.0, parts.1, width_of-decimal (suc w) (omega arith) short) (named_back all place (suc w) n m names next l is)

-- ---- segments

-- the places of the slots come next, one after another
segment_back : (all : List Text) (s : Segment) (n m : ℕ) → AreNames all → is_segment s ≡ true → AreInOrder n (slots_of (s ∷ [])) m → m ≤ length all →
    read_segment (take n all) (segment_print all s) ≡ Some (s, take m all)
segment_back all (literal t) n m names is order l =
    let bytes = (and_parts (nat_le 1 (length t)) (list_all is_literal_byte t) is).1 in
    let plain : is_bracketed t ≡ false = unbracketed_by_first t (λ rest e. absurd (true≢false (sym (and_parts (is_literal_byte 60) (list_all is_literal_byte rest) (subst (λ u. list_all is_literal_byte u ≡ true) e bytes)).0))) in
    rw (plain, is) (ap (λ k. Some (literal t, take k all)) order)
segment_back all (slot place width) n m names is order l =
    let parts = and_parts (nat_lt place 16) (nat_le width 64) is in
    let body = name_at all place ++ width_print width in
    let b = body_is (60 ∷ (body ++ 62 ∷ [])) (body ++ 62 ∷ []) body refl refl in
    rw (b.0, sym b.1) (body_back all place width n m names order l (leb-true width 64 parts.1))

-- ---- patterns

-- no fewer places come in order than were there
in_order-le : (n m : ℕ) (xs : List (ℕ × ℕ)) → AreInOrder n xs m → n ≤ m
in_order-le n m [] h = omega arith
in_order-le n m (x ∷ xs) (inl h) = in_order-le n m xs h.1
in_order-le n m (x ∷ xs) (inr h) = let rest = in_order-le (n + 1) m xs h.1 in omega arith

-- slots in order are first the ones and then the others
in_order-split : (n m : ℕ) (xs ys : List (ℕ × ℕ)) → AreInOrder n (xs ++ ys) m → (k : ℕ) × AreInOrder n xs k × AreInOrder k ys m
in_order-split n m [] ys h = (n, refl, h)
in_order-split n m (x ∷ xs) ys (inl h) = let rest = in_order-split n m xs ys h.1 in (rest.0, inl (h.0, rest.1), rest.2)
in_order-split n m (x ∷ xs) ys (inr h) = let rest = in_order-split (n + 1) m xs ys h.1 in (rest.0, inr (h.0, rest.1), rest.2)

slots_of-cons : (s : Segment) (ss : Pattern) → slots_of (s ∷ ss) ≡ slots_of (s ∷ []) ++ slots_of ss
slots_of-cons (literal t) ss = refl
slots_of-cons (slot place width) ss = refl

-- segments are read one after another, with the names that each brings
segments_back : (all : List Text) (p : Pattern) (n m : ℕ) → AreNames all → list_all is_segment p ≡ true → AreInOrder n (slots_of p) m → m ≤ length all →
    read_segments (take n all) (map (segment_print all) p) ≡ Some (p, take m all)
segments_back all [] n m names are order l = ap (λ k. Some ([], take k all)) order
segments_back all (s ∷ p) n m names are order l =
    let parts = and_parts (is_segment s) (list_all is_segment p) are in
    let split = in_order-split n m (slots_of (s ∷ [])) (slots_of p) (subst (λ xs. AreInOrder n xs m) (slots_of-cons s p) order) in
    let rest = in_order-le split.0 m (slots_of p) split.2 in
    rw (segment_back all s n split.0 names parts.0 split.1 (omega arith), segments_back all p split.0 m names parts.1 split.2 l) refl

-- a slot that comes in order has the place of a name
slot_within : (n m : ℕ) (s : Segment) → AreInOrder n (slots_of (s ∷ [])) m → (place width : ℕ) → s ≡ slot place width → place < m
slot_within n m s order place width e = of_slot n m place (subst (λ r. AreInOrder n (slots_of (r ∷ [])) m) e order)
  where
    of_slot : (n m place : ℕ) → IsNext n place m → place < m
    of_slot n m place h = next_within n place m m h (omega arith)

-- each segment as it is printed lacks a byte that is apart
segments_lack : (c : ℕ) (all : List Text) (p : Pattern) (n m : ℕ) → IsApart c → AreNames all → list_all is_segment p ≡ true → AreInOrder n (slots_of p) m → m ≤ length all →
    AllByRecursion (Lacks c) (map (segment_print all) p)
segments_lack c all [] n m a names are order l = tt
segments_lack c all (s ∷ p) n m a names are order l =
    let parts = and_parts (is_segment s) (list_all is_segment p) are in
    let split = in_order-split n m (slots_of (s ∷ [])) (slots_of p) (subst (λ xs. AreInOrder n xs m) (slots_of-cons s p) order) in
    let rest = in_order-le split.0 m (slots_of p) split.2 in (
      segment_lacks c all s a names.named parts.0 (λ place width e. let within = slot_within n split.0 s split.1 place width e in omega arith),
      segments_lack c all p split.0 m a names parts.1 split.2 l,
    )

-- a pattern has a segment
has_segment : (p : Pattern) → is_pattern p ≡ true → (s : Segment) × (ss : Pattern) × (p ≡ s ∷ ss)
has_segment [] h = absurd (false≢true h)
has_segment (s ∷ ss) h = (s, ss, refl)

-- the segments of a pattern's print are those of the pattern
segments_printed : (all : List Text) (p : Pattern) → is_pattern p ≡ true → AllByRecursion (Lacks 124) (map (segment_print all) p) → segments (pattern_print all p) ≡ map (segment_print all) p
segments_printed all [] h lack = absurd (false≢true h)
segments_printed all (s ∷ ss) h lack =
    pieces-join bar (segment_print all s) (map (segment_print all) ss) (All-from_recursion (Lacks bar) (map (segment_print all) (s ∷ ss)) lack)

-- a pattern is read from its print
pattern_back : (all : List Text) (p : Pattern) (n m : ℕ) → AreNames all → is_pattern p ≡ true → AreInOrder n (slots_of p) m → m ≤ length all → length (pattern_print all p) ≤ 512 →
    read_pattern (take n all) (pattern_print all p) ≡ Some (p, take m all)
unfolding read_pattern
pattern_back all p n m names is order l short =
    let are = segments_of_pattern p is in
    let printed = segments_printed all p is (segments_lack 124 all p n m bar_apart names are order l) in
    rw (le-leb (length (pattern_print all p)) 512 short, printed, segments_back all p n m names are order l, is) refl

-- a pattern's print is a token
pattern_token : (all : List Text) (p : Pattern) (n m : ℕ) → AreNames all → is_pattern p ≡ true → AreInOrder n (slots_of p) m → m ≤ length all → IsTokenText (pattern_print all p)
pattern_token all p n m names is order l =
    let are = segments_of_pattern p is in
    (some_byte all p is are, lacks_joined 32 bar (map (segment_print all) p) refl (segments_lack 32 all p n m space_apart names are order l))
  where
    one_byte : (all : List Text) (s : Segment) → is_segment s ≡ true → 1 ≤ length (segment_print all s)
    one_byte all (literal t) h = leb-true 1 (length t) (and_parts (nat_le 1 (length t)) (list_all is_literal_byte t) h).0
    one_byte all (slot place width) h = omega arith

    longer : (c : ℕ) (t : Text) (ts : List Text) → 1 ≤ length t → nat_le 1 (length (join_with_byte c (t ∷ ts))) ≡ true
    longer c t [] h = le-leb 1 (length t) h
    longer c t (u ∷ us) h = let long = length-append t (c ∷ join_with_byte c (u ∷ us)) in le-leb 1 (length (t ++ c ∷ join_with_byte c (u ∷ us))) (omega arith)

    some_byte : (all : List Text) (p : Pattern) → is_pattern p ≡ true → list_all is_segment p ≡ true → nat_le 1 (length (pattern_print all p)) ≡ true
    some_byte all [] h are = absurd (false≢true h)
    some_byte all (s ∷ ss) h are = longer bar (segment_print all s) (map (segment_print all) ss) (one_byte all s (and_parts (is_segment s) (list_all is_segment ss) are).0)

-- ---- sources

-- an operator is read from its word
operator_back : (operator : Operator) → operator_of (operator_word operator) ≡ Some operator
operator_back check = refl
operator_back copy = refl
operator_back count = refl
operator_back sum = refl
operator_back min = refl
operator_back max = refl

operator_token : (operator : Operator) → IsTokenText (operator_word operator)
operator_token check = (refl, refl)
operator_token copy = (refl, refl)
operator_token count = (refl, refl)
operator_token sum = (refl, refl)
operator_token min = (refl, refl)
operator_token max = (refl, refl)

-- sources that may be written behind the first n names
record AreWritable (all : List Text) (n m : ℕ) (ss : List Source) : Type 0 where
  patterns : list_all (λ s. is_pattern s.pattern) ss ≡ true
  order : AreInOrder n (source_slots_of ss) m
  short : AllByRecursion (λ s. length (pattern_print all s.pattern) ≤ 512) ss

-- the first source, and the others
record FirstAndRest (all : List Text) (n m : ℕ) (s : Source) (ss : List Source) : Type 0 where
  mid : ℕ
  is_pattern : is_pattern s.pattern ≡ true
  order : AreInOrder n (slots_of s.pattern) mid
  short : length (pattern_print all s.pattern) ≤ 512
  rest : AreWritable all mid m ss

first_and_rest : (all : List Text) (n m : ℕ) (s : Source) (ss : List Source) → AreWritable all n m (s ∷ ss) → FirstAndRest all n m s ss
first_and_rest all n m s ss w =
    let parts = and_parts (is_pattern s.pattern) (list_all (λ s. is_pattern s.pattern) ss) w.patterns in
    let split = in_order-split n m (slots_of s.pattern) (source_slots_of ss) w.order in
    record { mid = split.0; is_pattern = parts.0; order = split.1; short = w.short.0; rest = record { patterns = parts.1; order = split.2; short = w.short.1 } }

-- sources are read from their words, wherever these stand
sources_back : (all : List Text) (end at n m : ℕ) (ss : List Source) → AreNames all → AreWritable all n m ss → m ≤ length all →
    read_sources end (take n all) (placed at (source_words all ss)) ≡ Ok (ss, take m all)
sources_back all end at n m [] names w l = ap (λ k. Ok ([], take k all)) w.order
sources_back all end at n m (s ∷ ss) names w l =
    let f = first_and_rest all n m s ss w in
    let upto = in_order-le f.mid m (source_slots_of ss) f.rest.order in
    let pattern = pattern_back all s.pattern n f.mid names f.is_pattern f.order (omega arith) f.short in
    let others = sources_back all end (at + length (operator_word s.operator) + 1 + length (pattern_print all s.pattern) + 1) f.mid m ss names f.rest l in
    rw (operator_back s.operator, pattern, others) refl

-- the words of sources are tokens
source_tokens : (all : List Text) (n m : ℕ) (ss : List Source) → AreNames all → AreWritable all n m ss → m ≤ length all → AllByRecursion IsTokenText (source_words all ss)
source_tokens all n m [] names w l = tt
source_tokens all n m (s ∷ ss) names w l =
    let f = first_and_rest all n m s ss w in
    let upto = in_order-le f.mid m (source_slots_of ss) f.rest.order in
    (operator_token s.operator, (pattern_token all s.pattern n f.mid names f.is_pattern f.order (omega arith), source_tokens all f.mid m ss names f.rest l))

-- sources of which there is one are read where one is wanted
some_sources_back : (all : List Text) (end at n m : ℕ) (ss : List Source) → 1 ≤ length ss → AreNames all → AreWritable all n m ss → m ≤ length all →
    read_some_sources end (take n all) (placed at (source_words all ss)) ≡ Ok (ss, take m all)
some_sources_back all end at n m [] some names w l = absurd (omega arith)
some_sources_back all end at n m (s ∷ ss) some names w l = sources_back all end at n m (s ∷ ss) names w l

-- the words of a kind are tokens
kind_tokens : (kind : Kind) (ts : List Text) → AllByRecursion IsTokenText ts → AllByRecursion IsTokenText (kind_words kind ++ ts)
kind_tokens push ts h = h
kind_tokens pull ts h = ((refl, refl), h)

-- ---- the law

-- every join that may be written is read from its canonical text
pub reads_each_writable : ReadsEachWritable
unfolding canonical_text
reads_each_writable j w =
    let all = j.names in
    let at_most : length all ≤ length all = omega arith in
    let is = and_parts _ _ w.is_join in
    let few = and_parts _ _ is.0 in
    let some = and_parts _ _ few.0 in
    let names : AreNames all = record { named = w.named; distinct = w.distinct; few = leb-true (length all) 16 few.1 } in
    let split = in_order-split 0 (length all) (slots_of j.output) (source_slots_of j.sources) w.in_order in
    let upto = in_order-le split.0 (length all) (source_slots_of j.sources) split.2 in
    let sources : AreWritable all split.0 (length all) j.sources = record { patterns = sources_of_join j w.is_join; order = split.2; short = w.short_sources } in
    let whole = take-length all in
    let first = pattern_print all j.output in
    let words = source_words all j.sources in
    let end = length (canonical_text j) in
    let at = 0 + length first + 1 in
    let output : read_pattern [] first ≡ Some (j.output, take split.0 all) = pattern_back all j.output 0 split.0 names (output_of_join j w.is_join) split.1 upto w.short_output in
    let read : read_some_sources end (take split.0 all) (placed 0 words) ≡ Ok (j.sources, all) =
    some_sources_back all end 0 split.0 (length all) j.sources (leb-true 1 (length j.sources) some.1) names sources at_most ∙ ap (λ ns. Ok (j.sources, ns)) whole in
    let behind : after_kind j.kind (placed 0 words) ≡ kind_words j.kind ++ words = ap (λ ts. kind_words j.kind ++ ts) (texts_placed 0 words) in
    let again = kind_again j.kind end end (at + 1 + 1) (take split.0 all) all (placed 0 words) j.sources read in
    let rest = placed (at + 1 + 1) (kind_words j.kind ++ words) in
    let kind = subst (λ ts. (read_kind (placed (at + 1 + 1) ts)).0 ≡ j.kind) behind again.0 in
    let left = subst (λ ts. read_some_sources end (take split.0 all) (read_kind (placed (at + 1 + 1) ts)).1 ≡ Ok (j.sources, all)) behind again.1 in
    let are : AllByRecursion IsTokenText (first ∷ codes "=" ∷ (kind_words j.kind ++ words)) =
    (pattern_token all j.output 0 split.0 names (output_of_join j w.is_join) split.1 upto, ((refl, refl), kind_tokens j.kind words (source_tokens all split.0 (length all) j.sources names sources at_most))) in
    short_text (canonical_text j) w.short
    ∙ ap (join_of_tokens end) (tokens_joined first (codes "=" ∷ (kind_words j.kind ++ words)) are)
    ∙ join_back end (record { at = 0; text = first }) (record { at = at; text = codes "=" }) rest (take split.0 all) j output refl kind left
