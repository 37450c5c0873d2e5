-- The segments that are open behind fixed ones: what they take of a key, and where they are the same slot.
use Rattle.std.proofs.Common.{◌≡◌, ℕ, ◌<◌, ◌≤◌, ◌==◌, Bool, true, false, cond, ◌&&◌, nat_le, List, [], ◌∷◌, ◌++◌, length, take, slice_get, Option, Some, None, option_and_then, MatchOption, refl, sym, ap, ◌∙◌, subst, ⊎_elim, arith, append_assoc, append-nil, eqb-true, leb-true}
use Rattle.std.specs.List.{join_with_byte}
use Rattle.std.specs.Option.{IsSomeAnd}
use Rattle.std.proofs.lemmas.Bool.{and_parts, and_from, or_cases, false≢true}
use Rattle.std.proofs.lemmas.Option.{none-some, same_Some, cond_some, option_and_then_some}
use Rattle.semantics.specs.Texts.{Text, bar, Range}
use Rattle.semantics.specs.Patterns.{Segment, literal, slot, Pattern, Slots, text_at, takes_width, Takes, TakeAll, IsPartOf, segments}
use Rattle.semantics.proofs.PieceLemmas.{equal_by_same, same_by_equal, join-pieces}
use Rattle.semantics.proofs.PatternLemmas.{take_all_more}
use Rattle.key_ranges.specs.Containing.{bind_range, fixed_texts, open_or, first_open, is_text, has_text, open_after, shared_texts, same_width, narrowing_width}
use Rattle.key_ranges.specs.ContainingLaws.{HasNoFirst, IsLeastFirst, FirstOpenFollowsFixed, OpenAfterShared}
use Rattle.key_ranges.proofs.BindRangeLemmas.{bind_range_is_least}
use Rattle.key_ranges.proofs.ContainingLemmas.{fixed_slot, fixed_end, join-append}

-- ---- what follows a segment

-- nothing, or a text that begins with `|`
abbrev pub EndsSegment : Text → Type 0
EndsSegment [] = Unit {0}
EndsSegment (b ∷ bs) = b ≡ bar

-- joined texts are the first and what follows it
pub joined_from : (u : Text) (us : List Text) → (rest : Text) × (join_with_byte bar (u ∷ us) ≡ u ++ rest) × EndsSegment rest
joined_from u [] = ([], sym (append-nil u), tt)
joined_from u (v ∷ vs) = (bar ∷ join_with_byte bar (v ∷ vs), refl, refl)

-- a text of these segments is the first and what follows it
pub segments_from : (t u : Text) (us : List Text) → segments t ≡ u ∷ us → (rest : Text) × (t ≡ u ++ rest) × EndsSegment rest
segments_from t u us e =
    let joined = joined_from u us in
    (joined.0, sym (join-pieces bar t) ∙ ap (join_with_byte bar) e ∙ joined.1, joined.2)

-- a text of segments of which these come first is these, joined, then `|` and the next, and what follows it
pub segments_after : (t l : Text) (ls : List Text) (u : Text) (us : List Text) → segments t ≡ (l ∷ ls) ++ u ∷ us
    → (rest : Text) × (t ≡ (join_with_byte bar (l ∷ ls) ++ bar ∷ []) ++ (u ++ rest)) × EndsSegment rest
segments_after t l ls u us e =
    let joined = joined_from u us in
    let front = join_with_byte bar (l ∷ ls) in
    let whole : t ≡ front ++ bar ∷ join_with_byte bar (u ∷ us) = sym (join-pieces bar t) ∙ ap (join_with_byte bar) e ∙ join-append bar l ls u us in
    let parts : t ≡ front ++ bar ∷ (u ++ joined.0) = whole ∙ ap (λ v. front ++ bar ∷ v) joined.1 in
    (joined.0, parts ∙ sym (append_assoc front (bar ∷ []) (u ++ joined.0)), joined.2)

-- ---- the first open segment of a source

-- the segment takes the text that follows the fixed ones
abbrev pub TakesBehind : Segment → List Text → List Text → Slots → Type 0
TakesBehind s fixed ts more = (u : Text) × (us : List Text) × (ts ≡ fixed ++ u ∷ us) × Takes s u more

-- one fixed text more
behind_onto : (s : Segment) (t : Text) (fixed ts : List Text) (more : Slots) → TakesBehind s fixed ts more → TakesBehind s (t ∷ fixed) (t ∷ ts) more
behind_onto s t fixed ts more h = (h.0, h.1, ap (λ us. t ∷ us) h.2, h.3)

-- a slot, which has a text or is the open segment
open_slot : (place width : ℕ) (ss : Pattern) (t : Text) (ts : List Text) (given more : Slots) (s : Segment) (o : Option Text) → text_at place given ≡ o → Takes (slot place width) t more → IsPartOf given more
    → open_or o (slot place width) (first_open ss given) ≡ Some s → (first_open ss given ≡ Some s → TakesBehind s (fixed_texts ss given) ts more)
    → TakesBehind s (fixed_texts (slot place width ∷ ss) given) (t ∷ ts) more
open_slot place width ss t ts given more s None e takes part is rest =
    subst (λ fixed. TakesBehind s fixed (t ∷ ts) more) (sym (fixed_end place width ss given e)) (t, ts, refl, subst (λ r. Takes r t more) (same_Some (slot place width) s is) takes)
open_slot place width ss t ts given more s (Some u) e takes part is rest =
    let one : u ≡ t = same_Some u t (sym (part place u e) ∙ takes.1) in
    subst (λ fixed. TakesBehind s fixed (t ∷ ts) more) (sym (fixed_slot place width ss given t (e ∙ ap Some one))) (behind_onto s t (fixed_texts ss given) ts more (rest is))

-- the first open segment takes the text that follows the fixed ones
pub open_takes : (p : Pattern) (ts : List Text) (given more : Slots) (s : Segment) → TakeAll p ts more → IsPartOf given more → first_open p given ≡ Some s → TakesBehind s (fixed_texts p given) ts more
open_takes [] [] given more s h part is = absurd (none-some s is)
open_takes [] (t ∷ ts) given more s h part is = absurd h
open_takes (r ∷ ss) [] given more s h part is = absurd h
open_takes (literal l ∷ ss) (t ∷ ts) given more s h part is =
    subst (λ u. TakesBehind s (l ∷ fixed_texts ss given) (u ∷ ts) more) h.0 (behind_onto s l (fixed_texts ss given) ts more (open_takes ss ts given more s h.1 part is))
open_takes (slot place width ∷ ss) (t ∷ ts) given more s h part is = open_slot place width ss t ts given more s (text_at place given) refl h.0 part is (open_takes ss ts given more s h.1 part)

-- a slot, which has a text or is the open segment
fewer_slot : (place width : ℕ) (ss : Pattern) (given : Slots) (s : Segment) (o : Option Text) → text_at place given ≡ o → open_or o (slot place width) (first_open ss given) ≡ Some s
    → (first_open ss given ≡ Some s → length (fixed_texts ss given) < length ss) → length (fixed_texts (slot place width ∷ ss) given) < length (slot place width ∷ ss)
fewer_slot place width ss given s None e is rest = subst (λ ts. length ts < length (slot place width ∷ ss)) (sym (fixed_end place width ss given e)) (omega arith)
fewer_slot place width ss given s (Some t) e is rest = subst (λ ts. length ts < length (slot place width ∷ ss)) (sym (fixed_slot place width ss given t e)) (let less = rest is in omega (arith, less))

-- there are fewer fixed texts than segments, where one is open
pub open_fewer : (p : Pattern) (given : Slots) (s : Segment) → first_open p given ≡ Some s → length (fixed_texts p given) < length p
open_fewer [] given s is = absurd (none-some s is)
open_fewer (literal l ∷ ss) given s is = let less = open_fewer ss given s is in omega (arith, less)
open_fewer (slot place width ∷ ss) given s is = fewer_slot place width ss given s (text_at place given) refl is (open_fewer ss given s)

-- ---- the open segment of an output

-- the choice that comes to a segment
came_to : {A : Type 0} (x : Bool) (o : Option A) (s : A) → cond x o None ≡ Some s → (x ≡ true) × (o ≡ Some s)
came_to true o s h = (refl, h)
came_to false o s h = absurd (none-some s h)

-- the segment that follows those with the first texts takes the next one
pub after_takes : (p : Pattern) (ts us : List Text) (given more : Slots) (s : Segment) → TakeAll p (ts ++ us) more → open_after p ts given ≡ Some s → (u : Text) × (rest : List Text) × (us ≡ u ∷ rest) × Takes s u more
after_takes [] ts us given more s h is = absurd (none-some s is)
after_takes (r ∷ ss) [] [] given more s h is = absurd h
after_takes (r ∷ ss) [] (u ∷ us) given more s h is = (u, us, refl, subst (λ r. Takes r u more) (same_Some r s is) h.0)
after_takes (r ∷ ss) (t ∷ ts) us given more s h is = after_takes ss ts us given more s h.1 (came_to (has_text r t given) (open_after ss ts given) s is).1

-- ---- the laws on open segments

-- a slot, which has a text or is the open segment
first_slot : (place width : ℕ) (ss : Pattern) (given : Slots) (o : Option Text) → text_at place given ≡ o → first_open ss given ≡ slice_get ss (length (fixed_texts ss given))
    → open_or o (slot place width) (first_open ss given) ≡ slice_get (slot place width ∷ ss) (length (fixed_texts (slot place width ∷ ss) given))
first_slot place width ss given None e rest = subst (λ ts. Some (slot place width) ≡ slice_get (slot place width ∷ ss) (length ts)) (sym (fixed_end place width ss given e)) refl
first_slot place width ss given (Some t) e rest = subst (λ ts. first_open ss given ≡ slice_get (slot place width ∷ ss) (length ts)) (sym (fixed_slot place width ss given t e)) rest

-- the first open segment of a pattern is the one that follows its fixed texts
pub first_open_follows_fixed : FirstOpenFollowsFixed
first_open_follows_fixed [] given = refl
first_open_follows_fixed (literal l ∷ ss) given = first_open_follows_fixed ss given
first_open_follows_fixed (slot place width ∷ ss) given = first_slot place width ss given (text_at place given) refl (first_open_follows_fixed ss given)

-- the slots have this text
is_text_some : (o : Option Text) (t : Text) → is_text o t ≡ true → o ≡ Some t
is_text_some None t h = absurd (false≢true h)
is_text_some (Some u) t h = ap Some (equal_by_same u t h)

-- a segment that has a text takes it
has_takes : (s : Segment) (t : Text) (given : Slots) → has_text s t given ≡ true → Takes s t given
has_takes (literal l) t given h = equal_by_same l t h
has_takes (slot place width) t given h =
    let parts = and_parts (takes_width width t) (is_text (text_at place given) t) h in
    (parts.0, is_text_some (text_at place given) t parts.1)

-- the other way round
takes_has : (s : Segment) (t : Text) (given : Slots) → Takes s t given → has_text s t given ≡ true
takes_has (literal l) t given h = same_by_equal l t h
takes_has (slot place width) t given h = and_from _ _ h.0 (rw h.1 (same_by_equal t t refl))

-- a segment that is found follows those that take the texts
record IsFound (p : Pattern) (ts : List Text) (given : Slots) (s : Segment) : Type 0 where
  left : length ts < length p
  takes : TakeAll (take (length ts) p) ts given
  at : slice_get p (length ts) ≡ Some s

found_after : (p : Pattern) (ts : List Text) (given : Slots) (s : Segment) → open_after p ts given ≡ Some s → IsFound p ts given s
found_after [] ts given s h = absurd (none-some s h)
found_after (r ∷ ss) [] given s h = record { left = omega arith; takes = tt; at = h }
found_after (r ∷ ss) (t ∷ ts) given s h =
    let both = came_to (has_text r t given) (open_after ss ts given) s h in
    let rest = found_after ss ts given s both.1 in
    record { left = omega (arith, rest.left); takes = (has_takes r t given both.0, rest.takes); at = rest.at }

-- where the first segments take the texts and one is left, it is found
takes_found : (p : Pattern) (ts : List Text) (given : Slots) → length ts < length p → TakeAll (take (length ts) p) ts given → open_after p ts given ≡ None → ⊥
takes_found [] ts given left h none = absurd (omega arith)
takes_found (r ∷ ss) [] given left h none = none-some r (sym none)
takes_found (r ∷ ss) (t ∷ ts) given left h none =
    takes_found ss ts given (omega arith) h.1 (subst (λ x. cond x (open_after ss ts given) None ≡ None) (takes_has r t given h.0) none)

-- by whether a segment is found and whether the range shares slots
shared_by : (output : Pattern) (ts : List Text) (given : Slots) (o : Option Segment) (shared : Option Slots) → open_after output ts given ≡ o → MatchOption shared (HasNoFirst output ts) (IsLeastFirst output ts)
    → MatchOption o (IsSomeAnd shared (λ found. IsPartOf found given) → ⊥) (λ s. (slice_get output (length ts) ≡ Some s) × IsSomeAnd shared (λ found. IsPartOf found given))
shared_by output ts given None None e least = λ h. h
shared_by output ts given None (Some found) e least = λ part. takes_found output ts given least.left (take_all_more (take (length ts) output) ts found given part least.takes) e
shared_by output ts given (Some s) None e least = let is = found_after output ts given s e in absurd (least given is.left is.takes)
shared_by output ts given (Some s) (Some found) e least = let is = found_after output ts given s e in (is.at, least.least given is.takes)

-- the segment that follows the shared texts of a range is found exactly where the slots that the range shares are a part of the given ones
pub open_after_shared : OpenAfterShared
open_after_shared output r given ok = shared_by output (shared_texts r) given (open_after output (shared_texts r) given) (bind_range output r) refl (bind_range_is_least output r ok)

-- ---- the slot that both are

-- what two segments of one width are
abbrev pub AreSlot : Segment → Segment → ℕ → Type 0
AreSlot s r n = (place : ℕ) × (s ≡ slot place n) × (r ≡ slot place n) × (1 ≤ n)

-- of two slots
same_slot : (place width other asked n : ℕ) → cond ((place == other) && (width == asked) && nat_le 1 width) (Some width) None ≡ Some n → AreSlot (slot place width) (slot other asked) n
same_slot place width other asked n h =
    let w = cond_some ((place == other) && (width == asked) && nat_le 1 width) width n h in
    let both = and_parts ((place == other) && (width == asked)) (nat_le 1 width) w.0 in
    let two = and_parts (place == other) (width == asked) both.0 in
    let wide : asked ≡ n = sym (eqb-true width asked two.1) ∙ w.1 in
    let some = leb-true 1 width both.1 in
    (place, ap (λ m. slot place m) w.1, ap (λ q. slot q asked) (sym (eqb-true place other two.0)) ∙ ap (λ m. slot place m) wide, omega (arith, some, w.1))

-- segments of one width are one slot, which has it
pub same_width_is : (s r : Segment) (n : ℕ) → same_width s r ≡ Some n → AreSlot s r n
same_width_is (literal l) r n h = absurd (none-some n h)
same_width_is (slot place width) (literal l) n h = absurd (none-some n h)
same_width_is (slot place width) (slot other asked) n h = same_slot place width other asked n h

-- a text that a slot of a fixed width takes has that width
pub wide_text : (n : ℕ) (t : Text) → 1 ≤ n → takes_width n t ≡ true → length t ≡ n
wide_text n t some h =
    let parts = and_parts (nat_le 1 (length t)) _ h in
    ⊎_elim (λ (e : (n == 0) ≡ true). absurd (omega (arith, some, eqb-true n 0 e))) (λ e. eqb-true (length t) n e) (or_cases (n == 0) (length t == n) parts.1)

-- what narrows the range of a source by n bytes: a slot of the source that is open, and that follows the texts which the range of the output shares
pub record NarrowsBy (source : Pattern) (given : Slots) (output : Pattern) (range : Range) (n : ℕ) : Type 0 where
  pub place : ℕ
  pub some : 1 ≤ n
  pub first : first_open source given ≡ Some (slot place n)
  pub follows : open_after output (shared_texts range) given ≡ Some (slot place n)

-- a width by which a range is narrowed is that of such a slot
pub narrows_by : (source : Pattern) (given : Slots) (output : Pattern) (range : Range) (n : ℕ) → narrowing_width source given output range ≡ Some n → NarrowsBy source given output range n
narrows_by source given output range n h =
    option_and_then_some (λ s. option_and_then (same_width s) (open_after output (shared_texts range) given)) (first_open source given) n h
    (λ s first rest. option_and_then_some (same_width s) (open_after output (shared_texts range) given) n rest
    (λ r after wide.
    let are = same_width_is s r n wide in
    record { place = are.0; some = are.3; first = first ∙ ap Some are.1; follows = after ∙ ap Some are.2 }))
