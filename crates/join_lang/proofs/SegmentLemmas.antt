-- Segments that are read one after another.
use Rattle.std.proofs.Common.{◌≡◌, ℕ, ◌+◌, ◌-◌, ◌<◌, ◌≤◌, true, false, ◌==◌, nat_eq, List, [], ◌∷◌, ◌++◌, length, take, drop, get_or, Option, Some, None, option_map, option_and_then, MatchOption, refl, sym, ap, ◌∙◌, subst, arith, length-append, append_assoc, Result, Ok, Err, IfOk, OnErr}
use Rattle.std.specs.Borrow.{Bor}
use Rattle.std.specs.List.{ends_with, list_any, before_first, after_first, position_or_len}
use Rattle.std.specs.Cmp.Lexicographic.{pointwise}
use Rattle.std.proofs.lemmas.Bool.{and_from, and_left, and_right, or_left, or_right, or_parts, ne_eqb, eq-eqb, lt-leb, le-leb, false_from_ne_true}
use Rattle.std.proofs.lemmas.Bool.Decides.{Decides-eqb}
use Rattle.std.proofs.lemmas.List.Prefix.{end_rest, front_rest}
use Rattle.std.proofs.lemmas.Slice.Eq.{ends_is}
use Rattle.std.proofs.Math.Seq.{take-append_seam}
use Rattle.std.proofs.lemmas.List.Folds.{list_any-append}
use Rattle.std.specs.Result.{result_ok}
use Rattle.semantics.specs.Texts.{Text, bar}
use Rattle.semantics.specs.Patterns.{Segment, Pattern, is_pattern, segments}
use Rattle.semantics.proofs.PieceLemmas.{Lacks}
use Rattle.protocol.specs.JoinText.{is_bracketed, width_of, slot_named, slot_of_body, read_segment, read_segments, read_pattern}
use Rattle.join_lang.specs.Readings.{Finds}
use Rattle.join_lang.specs.Cuts.{IsCut}
use Rattle.join_lang.proofs.TokenLemmas.{pieces_left, pieces_cut}

-- what is read behind segments that were read before
abbrev pub behind_segments : Pattern → Option (Pattern × List Text) → Option (Pattern × List Text)
behind_segments before None = None
behind_segments before (Some read) = Some (before ++ read.0, read.1)

-- ---- brackets

-- a text that does not begin with `<` is not in brackets
pub unbracketed_by_first : (t : Text) → ((rest : Text) → t ≡ 60 ∷ rest → ⊥) → is_bracketed t ≡ false
unbracketed_by_first [] h = refl
unbracketed_by_first (b ∷ bs) h = and_left _ _ (ne_eqb b 60 (λ e. h bs (ap (λ x. x ∷ bs) e)))

-- what ends a text ends it also behind `<`
pub ends_behind : (front u : Text) → 60 ∷ u ≡ front ++ 62 ∷ [] → (f : Text) × (u ≡ f ++ 62 ∷ [])
ends_behind [] u e = let same : ◌≡◌ {A = ℕ} 60 62 = ap (λ x. get_or x 0 0) e in absurd (omega arith)
ends_behind (a ∷ f) u e = (f, cc)

-- what stands between `<` and `>`
pub body_is : (t u body : Text) → t ≡ 60 ∷ u → u ≡ body ++ 62 ∷ [] → (is_bracketed t ≡ true) × (body ≡ take (length t - 2) (drop 1 t))
body_is t u body e f =
    let whole : t ≡ (60 ∷ body) ++ 62 ∷ [] = e ∙ ap (λ x. 60 ∷ x) f in
    let long : length t - 2 ≡ length body = omega (arith, ap length whole, length-append body (62 ∷ [])) in
    let rest : drop 1 t ≡ body ++ 62 ∷ [] = ap (drop 1) whole in
    let ends : drop (length t - 1) t ≡ 62 ∷ [] = end_rest t (62 ∷ []) (60 ∷ body) whole in
    (and_from _ _ (ap (λ x. get_or x 0 0 == 60) whole) (ap (pointwise nat_eq (62 ∷ [])) ends), sym (rw (long, rest) (take-append_seam body (62 ∷ []))))

-- a text that begins with `<` is in brackets where `>` ends what stands behind
pub body_by : (t u : Text) (r : Option (Bor Text)) → t ≡ 60 ∷ u → MatchOption r ((front : Text) → u ≡ front ++ 62 ∷ [] → ⊥) (λ x. u ≡ x.now ++ 62 ∷ [])
    → MatchOption r (is_bracketed t ≡ false) (λ x. (is_bracketed t ≡ true) × (x.now ≡ take (length t - 2) (drop 1 t)))
body_by t u None e h = and_right _ _ (false_from_ne_true _ (λ ends.
    let whole = (ends_is Decides-eqb t (62 ∷ []) (ends_with nat_eq t (62 ∷ [])) refl).0 ends in
    let w = ends_behind (take (length t - 1) t) u (sym e ∙ whole) in
    h w.0 w.1))
body_by t u (Some x) e h = body_is t u x.now e h

-- ---- the parts of a slot

-- the first byte c stands behind a text without it
position_at : (c : ℕ) (t rest : Text) → Lacks c t → position_or_len (λ b. b == c) (t ++ c ∷ rest) ≡ length t
position_at c [] rest h = rw (eq-eqb c c refl)
position_at c (b ∷ bs) rest h =
    let parts = or_parts (b == c) (list_any (λ x. x == c) bs) h in
    let more = position_at c bs rest parts.1 in
    rw (parts.0, more) (omega arith)

-- what stands before and behind the first byte c
pub parts_at : (c : ℕ) (t rest : Text) → Lacks c t → (before_first (λ b. b == c) (t ++ c ∷ rest) ≡ t) × (after_first (λ b. b == c) (t ++ c ∷ rest) ≡ rest)
parts_at c t rest h =
    let at = position_at c t rest h in
    let whole : t ++ c ∷ rest ≡ (t ++ c ∷ []) ++ rest = sym (append_assoc t (c ∷ []) rest) in
    let long : length t + 1 ≡ length (t ++ c ∷ []) = omega (arith, length-append t (c ∷ [])) in
    (rw at (take-append_seam t (c ∷ rest)), rw (at, long) (front_rest (t ++ c ∷ rest) (t ++ c ∷ []) rest whole))

-- the byte c stands in a text around it
pub has_byte_at : (c : ℕ) (t rest : Text) → list_any (λ b. b == c) (t ++ c ∷ rest) ≡ true
has_byte_at c t rest = list_any-append (λ b. b == c) t (c ∷ rest) ∙ or_right _ _ (or_left _ _ (eq-eqb c c refl))

-- the slot of a name, and of the width behind it, if there is one
abbrev pub slot_of_parts : List Text → Text → Option (Bor Text) → Option (Segment × List Text)
slot_of_parts names name None = slot_named names name 0
slot_of_parts names name (Some width) = option_and_then (slot_named names name) (width_of width.now)

-- a slot is read from its parts
pub slot_of_body-cut : (names : List Text) (body first : Text) (later : Option (Bor Text)) → IsCut 58 body first later → slot_of_body names body ≡ slot_of_parts names first later
slot_of_body-cut names body first None h =
    let lacks : list_any (λ b. b == 58) body ≡ false = ap (list_any (λ b. b == 58)) h.0 ∙ h.1 in
    rw lacks (ap (λ name. slot_named names name 0) h.0)
slot_of_body-cut names body first (Some width) h =
    let has : list_any (λ b. b == 58) body ≡ true = ap (list_any (λ b. b == 58)) h.0 ∙ has_byte_at 58 first width.now in
    let parts = parts_at 58 first width.now h.1 in
    let before : before_first (λ b. b == 58) body ≡ first = ap (before_first (λ b. b == 58)) h.0 ∙ parts.0 in
    let after : after_first (λ b. b == 58) body ≡ width.now = ap (after_first (λ b. b == 58)) h.0 ∙ parts.1 in
    rw (has, before, after)

-- ---- one segment after another

-- where a segment is none, all are none
pub none_behind : (given : Option (Pattern × List Text)) (names : List Text) (before : Pattern) (rest : Option (Bor Text)) (t : Bor Text) (first : Text) (later : Option (Bor Text))
    → given ≡ behind_segments before (read_segments names (pieces_left bar rest)) → rest ≡ Some t → IsCut bar t.now first later → read_segment names first ≡ None → given ≡ None
none_behind given names before rest t first later g e cut none =
    g ∙ rw (e, pieces_cut bar t.now first later cut, none)

one_behind : (before : Pattern) (s : Segment) (o : Option (Pattern × List Text)) → behind_segments before (option_map (λ others. (s ∷ others.0, others.1)) o) ≡ behind_segments (before ++ s ∷ []) o
one_behind before s None = refl
one_behind before s (Some read) = ap (λ p. Some (p, read.1)) (sym (append_assoc before (s ∷ []) read.0))

-- a segment goes to those before
pub some_behind : (given : Option (Pattern × List Text)) (names more : List Text) (before : Pattern) (s : Segment) (rest : Option (Bor Text)) (t : Bor Text) (first : Text) (later : Option (Bor Text))
    → given ≡ behind_segments before (read_segments names (pieces_left bar rest)) → rest ≡ Some t → IsCut bar t.now first later → read_segment names first ≡ Some (s, more)
    → given ≡ behind_segments (before ++ s ∷ []) (read_segments more (pieces_left bar later))
some_behind given names more before s rest t first later g e cut some =
    g ∙ rw (e, pieces_cut bar t.now first later cut, some) (one_behind before s (read_segments more (pieces_left bar later)))

-- ---- the whole token

-- a token of more than 512 bytes is no pattern
pub too_long : (names : List Text) (t : Text) → 512 < length t → read_pattern names t ≡ None
unfolding read_pattern
too_long names t h = rw (lt-leb (length t) 512 h)

-- segments that are none make no pattern
pub no_segments : (names : List Text) (t : Text) → read_segments names (segments t) ≡ None → length t ≤ 512 → read_pattern names t ≡ None
unfolding read_pattern
no_segments names t none h = rw (le-leb (length t) 512 h, none)

-- the pattern of segments, where they make one
pub pattern_by : {E : Type 0} (names more : List Text) (t : Text) (list : Pattern) (made : Result Pattern E) (o : Option Pattern)
    → read_segments names (segments t) ≡ Some (list, more) → length t ≤ 512 → IfOk made (λ p. (p ≡ list) × (is_pattern p ≡ true)) → OnErr made (is_pattern list ≡ false)
    → o ≡ result_ok made → Finds (read_pattern names t) o more
unfolding read_pattern
pattern_by names more t list (Ok p) o read h ok err e =
    subst (λ o. Finds (read_pattern names t) o more) (sym e) (rw (le-leb (length t) 512 h, read, subst (λ l. is_pattern l ≡ true) ok.0 ok.1) (ap (λ p. Some (p, more)) (sym ok.0)))
pattern_by names more t list (Err back) o read h ok err e =
    subst (λ o. Finds (read_pattern names t) o more) (sym e) (rw (le-leb (length t) 512 h, read, err))
