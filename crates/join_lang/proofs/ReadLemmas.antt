-- What is known of the parts of a join that were read from a text.
use Rattle.std.proofs.Common.{◌≡◌, ℕ, ◌+◌, ◌-◌, ◌<◌, ◌≤◌, Bool, true, false, cond, ◌&&◌, ◌==◌, nat_le, nat_lt, nat_eq, List, [], ◌∷◌, ◌++◌, length, map, take, drop, get_or, decimal, Option, Some, None, option_map, option_and_then, refl, sym, ap, ◌∙◌, subst, arith, length-append, append_assoc}
use Rattle.std.specs.List.{list_all, list_any, ends_with, position_or_len, before_first, after_first, join_with_byte}
use Rattle.std.proofs.Math.Numerals.{one-add, add-one}
use Rattle.std.proofs.Math.Seq.{get_or-append_seam, drop-cons}
use Rattle.std.proofs.lemmas.Bool.{and_parts, and_from, false≢true, ltb-true, lt-ltb, leb-true, eqb-true, ne_eqb}
use Rattle.std.proofs.lemmas.Bool.Decides.{Decides-eqb}
use Rattle.std.proofs.lemmas.List.{append-nil, take-append-drop}
use Rattle.std.proofs.lemmas.List.Sums.{passes_at_first}
use Rattle.std.proofs.lemmas.Option.{none-some, same_Some, cond_some, option_and_then_some}
use Rattle.std.proofs.lemmas.Slice.Eq.{ends_is}
use Rattle.semantics.specs.Texts.{Text, bar, same}
use Rattle.semantics.specs.Patterns.{Segment, literal, slot, Pattern, is_literal, is_pattern, segments}
use Rattle.semantics.specs.Outputs.{is_positive, digits_value}
use Rattle.semantics.specs.Joins.{slots_of}
use Rattle.semantics.proofs.PieceLemmas.{equal_by_same, join-pieces}
use Rattle.protocol.specs.JoinText.{is_name, place_among, width_of, slot_named, slot_of_body, is_bracketed, read_segment, read_segments, read_pattern, name_at, segment_print, pattern_print}
use Rattle.join_lang.proofs.DigitLemmas.{one_le_positive, decimal-positive}
use Rattle.join_lang.proofs.SegmentLemmas.{ends_behind, body_is}

-- ---- names

-- a name's place among names, and the names after it
pub record Placed (names : List Text) (name : Text) (place : ℕ) (more : List Text) : Type 0 where
  pub new : List Text
  pub grows : more ≡ names ++ new
  pub few : length names ≤ 16 → length more ≤ 16
  pub within : place < length more
  pub named : (rest : List Text) → get_or (more ++ rest) place [] ≡ name

found_by : (n : Text) (ns rest : List Text) (name : Text) (b : Bool) → same name n ≡ b → list_any (same name) (n ∷ ns) ≡ true
    → (list_any (same name) ns ≡ true → (position_or_len (same name) ns < length ns) × (get_or (ns ++ rest) (position_or_len (same name) ns) [] ≡ name))
    → (position_or_len (same name) (n ∷ ns) < length (n ∷ ns)) × (get_or ((n ∷ ns) ++ rest) (position_or_len (same name) (n ∷ ns)) [] ≡ name)
found_by n ns rest name true e h more = rw e (omega arith, sym (equal_by_same name n e))
found_by n ns rest name false e h more =
    let w = more (rw e at h) in
    rw (e, one-add) (omega (arith, w.0), w.1)

-- a name that occurs stands at its place
found_at : (names rest : List Text) (name : Text) → list_any (same name) names ≡ true → (position_or_len (same name) names < length names) × (get_or (names ++ rest) (position_or_len (same name) names) [] ≡ name)
found_at [] rest name h = absurd (false≢true h)
found_at (n ∷ ns) rest name h = found_by n ns rest name (same name n) refl h (found_at ns rest name)

-- a pair that was given is that pair
given_pair : {A B : Type 0} (a c : A) (b d : B) → ◌≡◌ {A = Option (A × B)} (Some (a, b)) (Some (c, d)) → (a ≡ c) × (b ≡ d)
given_pair a c b d e = let p = same_Some _ _ e in (ap (λ x. x.0) p, ap (λ x. x.1) p)

old_name : (names : List Text) (name : Text) → list_any (same name) names ≡ true → Placed names name (position_or_len (same name) names) names
old_name names name h = record {
  new = [];
  grows = sym (append-nil names);
  few = λ n. n;
  within = (found_at names [] name h).0;
  named = λ rest. (found_at names rest name h).1;
}

new_name : (names : List Text) (name : Text) → length names < 16 → Placed names name (length names) (names ++ name ∷ [])
new_name names name h = record {
  new = name ∷ [];
  grows = refl;
  few = λ n. omega (arith, length-append names (name ∷ []));
  within = omega (arith, length-append names (name ∷ []));
  named = λ rest. rw (append_assoc names (name ∷ []) rest) (get_or-append_seam names name rest []);
}

placed_by : (names more : List Text) (name : Text) (place : ℕ) (old room : Bool) → list_any (same name) names ≡ old → nat_lt (length names) 16 ≡ room
    → cond {A = Option (ℕ × List Text)} old (Some (position_or_len (same name) names, names)) (cond {A = Option (ℕ × List Text)} room (Some (length names, names ++ name ∷ [])) None) ≡ Some (place, more) → Placed names name place more
placed_by names more name place true room e f h =
    let p = given_pair _ _ _ _ h in
    rw (sym p.0, sym p.1) (old_name names name e)
placed_by names more name place false true e f h =
    let p = given_pair _ _ _ _ h in
    rw (sym p.0, sym p.1) (new_name names name (ltb-true (length names) 16 f))
placed_by names more name place false false e f h = absurd (none-some (place, more) h)

-- what the place of a name is
pub place_among_read : (names more : List Text) (name : Text) (place : ℕ) → place_among names name ≡ Some (place, more) → Placed names name place more
place_among_read names more name place h = placed_by names more name place (list_any (same name) names) (nat_lt (length names) 16) refl refl h

-- ---- slots

-- places that are below a number
abbrev pub all_below : ℕ → List (ℕ × ℕ) → Bool
all_below n = list_all (λ s. nat_lt s.0 n)

-- what a segment or a pattern is that was read, with the names after it
pub record IsRead (names more : List Text) (slots : List (ℕ × ℕ)) (Prints : List Text → Type 0) : Type 0 where
  pub new : List Text
  pub grows : more ≡ names ++ new
  pub few : length names ≤ 16 → length more ≤ 16
  pub below : all_below (length more) slots ≡ true
  pub prints : (rest : List Text) → Prints (more ++ rest)

-- the print of a width behind a name
abbrev pub width_print : ℕ → Text
width_print width = cond (width == 0) [] (58 ∷ decimal width)

-- a slot that was read from what stands between `<` and `>`
pub record SlotRead (names more : List Text) (body : Text) (s : Segment) : Type 0 where
  pub place : ℕ
  pub width : ℕ
  pub is_slot : s ≡ slot place width
  pub read : IsRead names more ((place, width) ∷ []) (λ all. name_at all place ++ width_print width ≡ body)

named_by : (names more : List Text) (name : Text) (width : ℕ) (s : Segment) (b : Bool) (o : Option (ℕ × List Text))
    → cond {A = Option (Segment × List Text)} b (option_map {U = Segment × List Text} (λ found. (slot found.0 width, found.1)) o) None ≡ Some (s, more) → (place : ℕ) × (o ≡ Some (place, more)) × (s ≡ slot place width)
named_by names more name width s false o h = absurd (none-some (s, more) h)
named_by names more name width s true None h = absurd (none-some (s, more) h)
named_by names more name width s true (Some found) h =
    let p = given_pair _ _ _ _ h in
    (found.0, ap (λ m. Some (found.0, m)) p.1, sym p.0)

-- a slot of a name and a width
slot_named_read : (names more : List Text) (name body : Text) (width : ℕ) (s : Segment) → slot_named names name width ≡ Some (s, more) → name ++ width_print width ≡ body → SlotRead names more body s
slot_named_read names more name body width s h e =
    let w = named_by names more name width s (is_name name) (place_among names name) h in
    let p = place_among_read names more name w.0 w.1 in
    record {
      place = w.0;
      width = width;
      is_slot = w.2;
      read = record {
        new = p.new;
        grows = p.grows;
        few = p.few;
        below = and_from _ _ (lt-ltb w.0 (length more) p.within) refl;
        prints = λ rest. ap (λ t. t ++ width_print width) (p.named rest) ∙ e;
      };
    }

within_by : (p : ℕ → Bool) (x : ℕ) (xs : Text) (b : Bool) → p x ≡ b → list_any p (x ∷ xs) ≡ true → (list_any p xs ≡ true → position_or_len p xs < length xs) → position_or_len p (x ∷ xs) < length (x ∷ xs)
within_by p x xs true e h more = rw e (omega arith)
within_by p x xs false e h more = let w = more (rw e at h) in rw (e, one-add) (omega (arith, w))

-- a test that some byte passes is passed within the text
position_within : (p : ℕ → Bool) (xs : Text) → list_any p xs ≡ true → position_or_len p xs < length xs
position_within p [] h = absurd (false≢true h)
position_within p (x ∷ xs) h = within_by p x xs (p x) refl h (position_within p xs)

-- a text around its first byte c
around : (c : ℕ) (t : Text) → list_any (λ b. b == c) t ≡ true → before_first (λ b. b == c) t ++ c ∷ after_first (λ b. b == c) t ≡ t
around c t h =
    let p = position_or_len (λ b. b == c) t in
    let l = position_within (λ b. b == c) t h in
    let at_c : get_or t p 0 ≡ c = eqb-true (get_or t p 0) c (passes_at_first (λ b. b == c) t 0 l) in
    let cut : drop p t ≡ c ∷ drop (p + 1) t = drop-cons t p 0 l ∙ rw (add-one, at_c) in
    ap (λ x. take p t ++ x) (sym cut) ∙ take-append-drop p t

-- the width that a text writes is printed as that text
width_read : (t : Text) (width : ℕ) → width_of t ≡ Some width → width_print width ≡ 58 ∷ t
width_read t width h =
    let w = cond_some (is_positive t && nat_le (digits_value t) 64) (digits_value t) width h in
    let p = and_parts (is_positive t) (nat_le (digits_value t) 64) w.0 in
    let some = one_le_positive t p.0 in
    let ne : (width == 0) ≡ false = ne_eqb width 0 (λ e. absurd (omega (arith, w.1, e))) in
    rw ne (ap (λ d. 58 ∷ d) (ap decimal (sym w.1) ∙ decimal-positive t p.0 (leb-true (digits_value t) 64 p.1)))

body_by_colon : (names more : List Text) (body : Text) (s : Segment) (b : Bool) → list_any (λ x. x == 58) body ≡ b
    → cond b (option_and_then (slot_named names (before_first (λ x. x == 58) body)) (width_of (after_first (λ x. x == 58) body))) (slot_named names body 0) ≡ Some (s, more)
    → SlotRead names more body s
body_by_colon names more body s true colon h =
    option_and_then_some _ (width_of (after_first (λ x. x == 58) body)) (s, more) h (λ width at e.
    slot_named_read names more (before_first (λ x. x == 58) body) body width s e (ap (λ t. before_first (λ x. x == 58) body ++ t) (width_read _ width at) ∙ around 58 body colon))
body_by_colon names more body s false colon h = slot_named_read names more body body 0 s h (append-nil body)

-- ---- segments

-- a segment that was read from a text
abbrev pub SegmentRead : List Text → List Text → Text → Segment → Type 0
SegmentRead names more t s = IsRead names more (slots_of (s ∷ [])) (λ all. segment_print all s ≡ t)

bracketed_parts : (t : Text) → is_bracketed t ≡ true → 60 ∷ (take (length t - 2) (drop 1 t) ++ 62 ∷ []) ≡ t
bracketed_parts [] h = absurd (false≢true h)
bracketed_parts (b ∷ u) h =
    let t = b ∷ u in
    let parts = and_parts (get_or t 0 0 == 60) (ends_with nat_eq t (62 ∷ [])) h in
    let first : b ≡ 60 = eqb-true b 60 parts.0 in
    let begins : t ≡ 60 ∷ u = ap (λ x. x ∷ u) first in
    let whole = (ends_is Decides-eqb t (62 ∷ []) (ends_with nat_eq t (62 ∷ [])) refl).0 parts.1 in
    let w = ends_behind (take (length t - 1) t) u (sym begins ∙ whole) in
    let body = (body_is t u w.0 begins w.1).1 in
    ap (λ x. 60 ∷ (x ++ 62 ∷ [])) (sym body) ∙ ap (λ x. 60 ∷ x) (sym w.1) ∙ sym begins

slot_segment : (names more : List Text) (t body : Text) (s : Segment) → SlotRead names more body s → 60 ∷ (body ++ 62 ∷ []) ≡ t → SegmentRead names more t s
slot_segment names more t body s r e =
    subst (SegmentRead names more t) (sym r.is_slot) (record {
      new = r.read.new;
      grows = r.read.grows;
      few = r.read.few;
      below = r.read.below;
      prints = λ rest. ap (λ x. 60 ∷ (x ++ 62 ∷ [])) (r.read.prints rest) ∙ e;
    })

literal_segment : (names : List Text) (t : Text) → SegmentRead names names t (literal t)
literal_segment names t = record {
  new = [];
  grows = sym (append-nil names);
  few = λ n. n;
  below = refl;
  prints = λ rest. refl;
}

segment_by : (names more : List Text) (t : Text) (s : Segment) (b l : Bool) → is_bracketed t ≡ b → is_literal t ≡ l
    → cond b (slot_of_body names (take (length t - 2) (drop 1 t))) (cond l (Some (literal t, names)) None) ≡ Some (s, more) → SegmentRead names more t s
segment_by names more t s true l e f h =
    let body = take (length t - 2) (drop 1 t) in
    slot_segment names more t body s (body_by_colon names more body s (list_any (λ x. x == 58) body) refl h) (bracketed_parts t e)
segment_by names more t s false true e f h =
    let p = given_pair _ _ _ _ h in
    rw (sym p.0, sym p.1) (literal_segment names t)
segment_by names more t s false false e f h = absurd (none-some (s, more) h)

-- what a segment is that was read
pub segment_read : (names more : List Text) (t : Text) (s : Segment) → read_segment names t ≡ Some (s, more) → SegmentRead names more t s
segment_read names more t s h = segment_by names more t s (is_bracketed t) (is_literal t) refl refl h

-- ---- a whole pattern

cond_some_of : {A : Type 0} (b : Bool) (o : Option A) (x : A) → cond b o None ≡ Some x → o ≡ Some x
cond_some_of true o x h = h
cond_some_of false o x h = absurd (none-some x h)

-- segments that were read from texts
abbrev pub SegmentsRead : List Text → List Text → List Text → Pattern → Type 0
SegmentsRead names more ts p = IsRead names more (slots_of p) (λ all. map (segment_print all) p ≡ ts)

-- places below a number are below a greater one
pub all_below_more : (n m : ℕ) (slots : List (ℕ × ℕ)) → n ≤ m → all_below n slots ≡ true → all_below m slots ≡ true
all_below_more n m [] h e = refl
all_below_more n m (s ∷ ss) h e =
    let parts = and_parts (nat_lt s.0 n) (all_below n ss) e in
    and_from _ _ (lt-ltb s.0 m (omega (arith, ltb-true s.0 n parts.0))) (all_below_more n m ss h parts.1)

-- places of two lists
pub all_below-append : (n : ℕ) (xs ys : List (ℕ × ℕ)) → all_below n xs ≡ true → all_below n ys ≡ true → all_below n (xs ++ ys) ≡ true
all_below-append n [] ys h e = e
all_below-append n (x ∷ xs) ys h e =
    let parts = and_parts (nat_lt x.0 n) (all_below n xs) h in
    and_from _ _ parts.0 (all_below-append n xs ys parts.1 e)

slots_of-cons : (s : Segment) (ss : Pattern) → slots_of (s ∷ ss) ≡ slots_of (s ∷ []) ++ slots_of ss
slots_of-cons (literal t) ss = refl
slots_of-cons (slot place width) ss = refl

one_more : (names mid more : List Text) (t : Text) (ts : List Text) (s : Segment) (ss : Pattern) → SegmentRead names mid t s → SegmentsRead mid more ts ss → SegmentsRead names more (t ∷ ts) (s ∷ ss)
one_more names mid more t ts s ss one others =
    let longer : length mid ≤ length more = omega (arith, ap length others.grows, length-append mid others.new) in
    record {
      new = one.new ++ others.new;
      grows = others.grows ∙ ap (λ x. x ++ others.new) one.grows ∙ append_assoc names one.new others.new;
      few = λ n. others.few (one.few n);
      below = rw (slots_of-cons s ss) (all_below-append (length more) (slots_of (s ∷ [])) (slots_of ss) (all_below_more (length mid) (length more) (slots_of (s ∷ [])) longer one.below) others.below);
      prints = λ rest.
          let whole : more ++ rest ≡ mid ++ (others.new ++ rest) = ap (λ x. x ++ rest) others.grows ∙ append_assoc mid others.new rest in
          let first : segment_print (more ++ rest) s ≡ t = ap (λ all. segment_print all s) whole ∙ one.prints (others.new ++ rest) in
          ap (λ x. x ∷ map (segment_print (more ++ rest)) ss) first ∙ ap (λ x. t ∷ x) (others.prints rest);
    }

segments_by : (names more : List Text) (t : Text) (ts : List Text) (one : Segment × List Text) (p : Pattern) (o : Option (Pattern × List Text))
    → read_segments one.1 ts ≡ o → option_map {U = Pattern × List Text} (λ others. (one.0 ∷ others.0, others.1)) o ≡ Some (p, more) → SegmentRead names one.1 t one.0
    → ((ss : Pattern) (more : List Text) → read_segments one.1 ts ≡ Some (ss, more) → SegmentsRead one.1 more ts ss) → SegmentsRead names more (t ∷ ts) p
segments_by names more t ts one p None e h r others = absurd (none-some (p, more) h)
segments_by names more t ts one p (Some found) e h r others =
    let w = given_pair _ _ _ _ h in
    subst (SegmentsRead names more (t ∷ ts)) w.0 (one_more names one.1 more t ts one.0 found.0 r (others found.0 more (e ∙ ap (λ m. Some (found.0, m)) w.1)))

-- what segments are that were read
pub segments_read : (names more : List Text) (ts : List Text) (p : Pattern) → read_segments names ts ≡ Some (p, more) → SegmentsRead names more ts p
segments_read names more [] p h =
    let w = given_pair _ _ _ _ h in
    subst (SegmentsRead names more []) w.0 (record {
      new = [];
      grows = sym w.1 ∙ sym (append-nil names);
      few = λ n. subst (λ x. length x ≤ 16) w.1 n;
      below = refl;
      prints = λ rest. refl;
    })
segments_read names more (t ∷ ts) p h =
    option_and_then_some _ (read_segment names t) (p, more) h (λ one at e.
    segments_by names more t ts one p (read_segments one.1 ts) refl e (segment_read names one.1 t one.0 at) (λ ss m r. segments_read one.1 m ts ss r))

-- a pattern that was read from a token
pub record PatternRead (names more : List Text) (t : Text) (p : Pattern) : Type 0 where
  pub pattern : is_pattern p ≡ true
  pub read : IsRead names more (slots_of p) (λ all. pattern_print all p ≡ t)

-- what a pattern is that was read
pub pattern_read : (names more : List Text) (t : Text) (p : Pattern) → read_pattern names t ≡ Some (p, more) → PatternRead names more t p
unfolding read_pattern
pattern_read names more t p h =
    let short = cond_some_of (nat_le (length t) 512) _ (p, more) h in
    option_and_then_some _ (read_segments names (segments t)) (p, more) short (λ found at e.
    let w = cond_some (is_pattern found.0) found (p, more) e in
    let r = segments_read names more (segments t) p (at ∙ ap Some w.1) in
    record {
      pattern = subst (λ (x : Pattern × List Text). is_pattern x.0 ≡ true) w.1 w.0;
      read = record {
        new = r.new;
        grows = r.grows;
        few = r.few;
        below = r.below;
        prints = λ rest. ap (join_with_byte bar) (r.prints rest) ∙ join-pieces bar t;
      };
    })
