-- What binds, fills and overlaps, and the laws on patterns.
use Rattle.std.proofs.Common.{◌≡◌, ◌≢◌, ℕ, zero, suc, ◌<◌, ◌≤◌, Bool, true, false, cond, ◌||◌, ◌==◌, nat_le, List, [], ◌∷◌, length, Option, Some, None, is_some, MatchOption, option_and_then, option_map, slice_set, replicate, refl, sym, ap, ◌∙◌, subst, ⊎_elim, arith, eqb-true, eq-eqb, ltb-true, leb-true, le-leb}
use Rattle.std.specs.List.{list_all, list_any, join_with_byte, AllByRecursion}
use Rattle.std.proofs.lemmas.Bool.{and_parts, and_from, or_left, or_right, or_cases, false≢true, cases_eq, not-true, or_from}
use Rattle.std.proofs.lemmas.Option.{none-some, same_Some, cond_some, option_and_then_some}
use Rattle.std.proofs.lemmas.List.{length-set}
use Rattle.std.proofs.lemmas.List.Elements.{All-from_recursion}
use Rattle.semantics.specs.Texts.{Text, bar, same}
use Rattle.semantics.specs.Patterns.{Segment, literal, slot, Pattern, Slots, no_slots, text_at, is_literal_byte, is_segment, is_pattern, segments, takes_width, Takes, TakeAll, Fits, IsPartOf, taken, take_all, bind, fits, segment_text, segment_texts, has_width, segments_meet, overlaps}
use Rattle.semantics.specs.PatternLaws.{IsLeastFit, HasNoFit, BindIsLeast, FitsOverlap, AreSegmentTexts, FillFits, FitIsFill}
use Rattle.semantics.proofs.PieceLemmas.{equal_by_same, same_by_equal, unequal_by_same, Lacks, join-pieces, pieces-join}

-- ---- the text at a place

-- a text that was given to a place stands there
pub text_at-set_same : (given : Slots) (place : ℕ) (o : Option Text) → place < length given → text_at place (slice_set given place o) ≡ o
text_at-set_same [] place o h = absurd (omega arith)
text_at-set_same (g ∷ gs) zero o h = refl
text_at-set_same (g ∷ gs) (suc place) o h = text_at-set_same gs place o (omega arith)

-- another place keeps its text
pub text_at-set_other : (given : Slots) (place other : ℕ) (o : Option Text) → other ≢ place → text_at other (slice_set given place o) ≡ text_at other given
text_at-set_other [] place other o h = refl
text_at-set_other (g ∷ gs) zero zero o h = absurd (h refl)
text_at-set_other (g ∷ gs) zero (suc other) o h = refl
text_at-set_other (g ∷ gs) (suc place) zero o h = refl
text_at-set_other (g ∷ gs) (suc place) (suc other) o h = text_at-set_other gs place other o (λ e. h (ap suc e))

-- no text stands at a place of slots that give none
text_at-none_by : (n place : ℕ) → text_at place (replicate n None) ≡ None
text_at-none_by zero place = refl
text_at-none_by (suc n) zero = refl
text_at-none_by (suc n) (suc place) = text_at-none_by n place

-- no text stands at a place of no slots
pub text_at-no_slots : (place : ℕ) → text_at place no_slots ≡ None
unfolding no_slots
text_at-no_slots place = text_at-none_by 16 place

-- there are 16 places
pub length-no_slots : length no_slots ≡ 16
unfolding no_slots
length-no_slots = refl

-- no slots are a part of all
pub no_slots_part : (given : Slots) → IsPartOf no_slots given
no_slots_part given place t e = absurd (none-some t (sym (text_at-no_slots place) ∙ e))

-- slots are a part of themselves
pub part_itself : (given : Slots) → IsPartOf given given
part_itself given place t e = e

-- a part of a part is a part
pub part_trans : (a b c : Slots) → IsPartOf a b → IsPartOf b c → IsPartOf a c
part_trans a b c p q place t e = q place t (p place t e)

-- ---- one segment

-- what a segment asks of a text by itself
abbrev pub Suits : Segment → Text → Type 0
Suits (literal l) t = l ≡ t
Suits (slot place width) t = takes_width width t ≡ true

-- what a segment takes, it takes under more slots
pub takes_more : (s : Segment) (t : Text) (given more : Slots) → IsPartOf given more → Takes s t given → Takes s t more
takes_more (literal l) t given more p h = h
takes_more (slot place width) t given more p h = (h.0, p place t h.1)

-- what segments take, they take under more slots
pub take_all_more : (p : Pattern) (ts : List Text) (given more : Slots) → IsPartOf given more → TakeAll p ts given → TakeAll p ts more
take_all_more [] [] given more q h = h
take_all_more [] (t ∷ ts) given more q h = h
take_all_more (s ∷ ss) [] given more q h = h
take_all_more (s ∷ ss) (t ∷ ts) given more q h = (takes_more s t given more q h.0, take_all_more ss ts given more q h.1)

-- what a key fits under slots, it fits under more
pub fits_more : (p : Pattern) (key : Text) (given more : Slots) → IsPartOf given more → Fits p key given → Fits p key more
fits_more p key given more q h = take_all_more p (segments key) given more q h

-- the least slots under which a segment takes a text
pub record IsLeastTake (s : Segment) (t : Text) (given found : Slots) : Type 0 where
  pub takes : Takes s t found
  pub keeps : IsPartOf given found
  pub least : (other : Slots) → Takes s t other → IsPartOf given other → IsPartOf found other
  pub long : length found ≡ length given

-- the segment takes the text under no slots of which the given ones are a part
abbrev pub TakesNone : Segment → Text → Slots → Type 0
TakesNone s t given = (other : Slots) → Takes s t other → IsPartOf given other → ⊥

-- a literal takes its own text alone, and adds nothing
literal_by : (l t : Text) (given : Slots) (x : Bool) → same l t ≡ x → MatchOption (cond x (Some given) None) (TakesNone (literal l) t given) (IsLeastTake (literal l) t given)
literal_by l t given true e = record { takes = equal_by_same l t e; keeps = part_itself given; least = λ other h p. p; long = refl }
literal_by l t given false e = λ other h p. unequal_by_same l t e h

-- the slots with one text more are the least that have it
set_least : (place width : ℕ) (t : Text) (given : Slots) → place < length given → takes_width width t ≡ true → text_at place given ≡ None → IsLeastTake (slot place width) t given (slice_set given place (Some t))
set_least place width t given within wide free = record {
  takes = (wide, text_at-set_same given place (Some t) within);
  keeps = λ other u e. ⊎_elim (λ (q : other ≡ place). absurd (none-some u (sym free ∙ ap (λ k. text_at k given) (sym q) ∙ e))) (λ q. text_at-set_other given place other (Some t) q ∙ e) (cases_eq other place);
  least = λ others h p other u e. ⊎_elim
      (λ (q : other ≡ place). ap (λ k. text_at k others) q ∙ h.1 ∙ sym (text_at-set_same given place (Some t) within) ∙ ap (λ k. text_at k (slice_set given place (Some t))) (sym q) ∙ e)
      (λ q. p other u (sym (text_at-set_other given place other (Some t) q) ∙ e))
      (cases_eq other place);
  long = length-set given place (Some t);
}

-- a slot with a text takes the same text alone, and adds nothing
given_by : (place width : ℕ) (t u : Text) (given : Slots) (x : Bool) → same u t ≡ x → takes_width width t ≡ true → text_at place given ≡ Some u → MatchOption (cond x (Some given) None) (TakesNone (slot place width) t given) (IsLeastTake (slot place width) t given)
given_by place width t u given true e wide at = record {
  takes = (wide, at ∙ ap Some (equal_by_same u t e));
  keeps = part_itself given;
  least = λ other h p. p;
  long = refl;
}
given_by place width t u given false e wide at = λ other h p. unequal_by_same u t e (same_Some u t (sym (p place u at) ∙ h.1))

-- what one segment may come to
abbrev IsAnswer : Segment → Text → Slots → Option Slots → Type 0
IsAnswer s t given o = MatchOption o (TakesNone s t given) (IsLeastTake s t given)

-- a slot whose width the text has takes it where it is free or has that text
slot_by : (place width : ℕ) (t : Text) (given : Slots) (o : Option Text) → place < length given → takes_width width t ≡ true → text_at place given ≡ o → IsAnswer (slot place width) t given (taken (slot place width) t given)
slot_by place width t given None within wide at =
    let e : taken (slot place width) t given ≡ Some (slice_set given place (Some t)) = rw (wide, at) in
    subst (IsAnswer (slot place width) t given) (sym e) (set_least place width t given within wide at)
slot_by place width t given (Some u) within wide at =
    let e : taken (slot place width) t given ≡ cond (same u t) (Some given) None = rw (wide, at) in
    subst (IsAnswer (slot place width) t given) (sym e) (given_by place width t u given (same u t) refl wide at)

-- a slot takes no text of another width
slot_or_none : (place width : ℕ) (t : Text) (given : Slots) (x : Bool) → place < length given → takes_width width t ≡ x → IsAnswer (slot place width) t given (taken (slot place width) t given)
slot_or_none place width t given true within wide = slot_by place width t given (text_at place given) within wide refl
slot_or_none place width t given false within wide =
    let e : taken (slot place width) t given ≡ None = rw wide in
    let none : TakesNone (slot place width) t given = λ other h p. absurd (false≢true (sym wide ∙ h.0)) in
    subst (IsAnswer (slot place width) t given) (sym e) none

-- a segment takes a text under the least slots, if under any
pub taken_least : (s : Segment) (t : Text) (given : Slots) → is_segment s ≡ true → length given ≡ 16 → MatchOption (taken s t given) (TakesNone s t given) (IsLeastTake s t given)
taken_least (literal l) t given ok long = literal_by l t given (same l t) refl
taken_least (slot place width) t given ok long =
    let below : place < 16 = ltb-true place 16 (and_parts _ _ ok).0 in
    slot_or_none place width t given (takes_width width t) (omega arith) refl

-- ---- all segments

-- the least slots under which the segments take the texts, one each
pub record IsLeastTakes (p : Pattern) (ts : List Text) (given found : Slots) : Type 0 where
  pub takes : TakeAll p ts found
  pub keeps : IsPartOf given found
  pub least : (other : Slots) → TakeAll p ts other → IsPartOf given other → IsPartOf found other
  pub long : length found ≡ length given

-- what all segments may come to: slots that are the least, or none where there are none
abbrev pub IsWhole : Pattern → List Text → Slots → Option Slots → Type 0
IsWhole p ts given o = MatchOption o ((other : Slots) → TakeAll p ts other → IsPartOf given other → ⊥) (IsLeastTakes p ts given)

-- the least slots of the first segment and then of the others are the least of all
carried : (s : Segment) (ss : Pattern) (t : Text) (ts : List Text) (given more : Slots) (o : Option Slots) → IsLeastTake s t given more → IsWhole ss ts more o → IsWhole (s ∷ ss) (t ∷ ts) given o
carried s ss t ts given more None one rest = λ other h p. rest other h.1 (one.least other h.0 p)
carried s ss t ts given more (Some found) one rest = record {
  takes = (takes_more s t more found rest.keeps one.takes, rest.takes);
  keeps = part_trans given more found one.keeps rest.keeps;
  least = λ other h p. rest.least other h.1 (one.least other h.0 p);
  long = rest.long ∙ one.long;
}

-- the first segment and then the others
step_by : (s : Segment) (ss : Pattern) (t : Text) (ts : List Text) (given : Slots) (o : Option Slots) → length given ≡ 16 → IsAnswer s t given o
    → ((more : Slots) → length more ≡ 16 → IsWhole ss ts more (take_all ss ts more))
    → IsWhole (s ∷ ss) (t ∷ ts) given (option_and_then (λ more. take_all ss ts more) o)
step_by s ss t ts given None long one rest = λ other h p. one other h.0 p
step_by s ss t ts given (Some more) long one rest = carried s ss t ts given more (take_all ss ts more) one (rest more (one.long ∙ long))

-- segments take texts under the least slots, if under any
pub take_all_least : (p : Pattern) (ts : List Text) (given : Slots) → list_all is_segment p ≡ true → length given ≡ 16 → IsWhole p ts given (take_all p ts given)
take_all_least [] [] given ok long = record { takes = tt; keeps = part_itself given; least = λ other h p. p; long = refl }
take_all_least [] (t ∷ ts) given ok long = λ other h p. h
take_all_least (s ∷ ss) [] given ok long = λ other h p. h
take_all_least (s ∷ ss) (t ∷ ts) given ok long =
    let parts = and_parts (is_segment s) (list_all is_segment ss) ok in
    step_by s ss t ts given (taken s t given) long (taken_least s t given parts.0 long) (λ more m. take_all_least ss ts more parts.1 m)

-- what all segments come to is what `bind` says
bind_by : (p : Pattern) (key : Text) (given : Slots) (o : Option Slots) → IsWhole p (segments key) given o → MatchOption o (HasNoFit p key given) (IsLeastFit p key given)
bind_by p key given None h = h
bind_by p key given (Some found) h = record { fits = h.takes; keeps = h.keeps; least = h.least }

-- `bind` gives the least slots under which the key fits
pub bind_least : BindIsLeast
bind_least p key given ok long = bind_by p key given (bind p key given) (take_all_least p (segments key) given ok long)

-- what `bind` gives keeps the number of places, has the given slots as a part, and lets the key fit
pub bind_some : (p : Pattern) (key : Text) (given found : Slots) → list_all is_segment p ≡ true → length given ≡ 16 → bind p key given ≡ Some found → IsLeastTakes p (segments key) given found
bind_some p key given found ok long e = subst (IsWhole p (segments key) given) e (take_all_least p (segments key) given ok long)

-- ---- what the texts say, whatever the slots

-- a literal takes only its own text
literal_suits : (l t : Text) (given more : Slots) (x : Bool) → same l t ≡ x → cond x (Some given) None ≡ Some more → l ≡ t
literal_suits l t given more true e h = equal_by_same l t e
literal_suits l t given more false e h = absurd (none-some more h)

-- a slot takes only a text of its width
slot_suits : (place width : ℕ) (t : Text) (given more : Slots) (x : Bool) → takes_width width t ≡ x → taken (slot place width) t given ≡ Some more → takes_width width t ≡ true
slot_suits place width t given more true e h = e
slot_suits place width t given more false e h = absurd (none-some more (rw e at h))

-- a segment takes only what suits it
pub taken_suits : (s : Segment) (t : Text) (given more : Slots) → taken s t given ≡ Some more → Suits s t
taken_suits (literal l) t given more h = literal_suits l t given more (same l t) refl h
taken_suits (slot place width) t given more h = slot_suits place width t given more (takes_width width t) refl h

-- each segment suits its text
abbrev pub SuitAll : Pattern → List Text → Type 0
SuitAll [] [] = Unit {0}
SuitAll [] (t ∷ ts) = ⊥
SuitAll (s ∷ ss) [] = ⊥
SuitAll (s ∷ ss) (t ∷ ts) = Suits s t × SuitAll ss ts

-- the first segment and then the others suit their texts
suit_by : (s : Segment) (ss : Pattern) (t : Text) (ts : List Text) (given found : Slots) (o : Option Slots) → taken s t given ≡ o → option_and_then (λ more. take_all ss ts more) o ≡ Some found
    → ((more : Slots) → take_all ss ts more ≡ Some found → SuitAll ss ts) → Suits s t × SuitAll ss ts
suit_by s ss t ts given found None e h rest = absurd (none-some found h)
suit_by s ss t ts given found (Some more) e h rest = (taken_suits s t given more e, rest more h)

-- segments take only what suits them
pub take_all_suit : (p : Pattern) (ts : List Text) (given found : Slots) → take_all p ts given ≡ Some found → SuitAll p ts
take_all_suit [] [] given found h = tt
take_all_suit [] (t ∷ ts) given found h = none-some found h
take_all_suit (s ∷ ss) [] given found h = none-some found h
take_all_suit (s ∷ ss) (t ∷ ts) given found h = suit_by s ss t ts given found (taken s t given) refl h (λ more e. take_all_suit ss ts more found e)

-- a test of an `Option` that holds some
some_of : {A : Type 0} (o : Option A) → is_some o ≡ true → (x : A) × (o ≡ Some x)
some_of None h = absurd (false≢true h)
some_of (Some x) h = (x, refl)

-- the segments of a key that fits suit its texts
pub fits_suit : (p : Pattern) (key : Text) → fits p key ≡ true → SuitAll p (segments key)
fits_suit p key h = let found = some_of (bind p key no_slots) h in take_all_suit p (segments key) no_slots found.0 found.1

-- a text that a slot takes has its width
width_suits : (width : ℕ) (t : Text) → takes_width width t ≡ true → has_width width t ≡ true
width_suits width t h = (and_parts _ _ h).1

-- two widths that one text has
widths_meet : (width asked : ℕ) (t : Text) → has_width width t ≡ true → has_width asked t ≡ true → (width == 0 || (asked == 0) || (width == asked)) ≡ true
widths_meet width asked t h g =
    ⊎_elim (λ (e : (width == 0) ≡ true). or_left _ _ (or_left _ _ e))
    (λ e. ⊎_elim (λ (d : (asked == 0) ≡ true). or_left _ _ (or_right _ _ d))
    (λ d. or_right _ _ (eq-eqb width asked (sym (eqb-true _ _ e) ∙ eqb-true _ _ d)))
    (or_cases _ _ g))
    (or_cases _ _ h)

-- segments that one text suits meet
segments_meet_by : (s r : Segment) (t : Text) → Suits s t → Suits r t → segments_meet s r ≡ true
segments_meet_by (literal l) (literal m) t h g = same_by_equal l m (h ∙ sym g)
segments_meet_by (literal l) (slot place width) t h g = ap (has_width width) h ∙ width_suits width t g
segments_meet_by (slot place width) (literal l) t h g = ap (has_width width) g ∙ width_suits width t h
segments_meet_by (slot place width) (slot other asked) t h g = widths_meet width asked t (width_suits width t h) (width_suits asked t g)

-- patterns whose segments suit the same texts overlap
overlap_by : (p q : Pattern) (ts : List Text) → SuitAll p ts → SuitAll q ts → overlaps p q ≡ true
overlap_by [] [] ts h g = refl
overlap_by [] (r ∷ rs) [] h g = absurd g
overlap_by [] (r ∷ rs) (t ∷ ts) h g = absurd h
overlap_by (s ∷ ss) [] [] h g = absurd h
overlap_by (s ∷ ss) [] (t ∷ ts) h g = absurd g
overlap_by (s ∷ ss) (r ∷ rs) [] h g = absurd h
overlap_by (s ∷ ss) (r ∷ rs) (t ∷ ts) h g = and_from _ _ (segments_meet_by s r t h.0 g.0) (overlap_by ss rs ts h.1 g.1)

-- a key that fits two patterns shows that they overlap
pub fits_overlap : FitsOverlap
fits_overlap p q key h g = overlap_by p q (segments key) (fits_suit p key h) (fits_suit q key g)

-- ---- what is filled

-- a segment that has a text under slots takes that text under them
segment_takes : (s : Segment) (t : Text) (given : Slots) → segment_text s given ≡ Some t → Takes s t given
segment_takes (literal l) t given h = same_Some l t h
segment_takes (slot place width) t given h = option_and_then_some _ (text_at place given) t h (λ u at e. let parts = cond_some (takes_width width u) u t e in
    (subst (λ v. takes_width width v ≡ true) parts.1 parts.0, at ∙ ap Some parts.1))

-- a segment that takes a text under slots has that text under them
takes_segment : (s : Segment) (t : Text) (given : Slots) → Takes s t given → segment_text s given ≡ Some t
takes_segment (literal l) t given h = ap Some h
takes_segment (slot place width) t given h = rw (h.1, h.0)

-- a literal has no `|`
literal_lacks : (l : Text) → list_all is_literal_byte l ≡ true → Lacks bar l
literal_lacks [] h = refl
literal_lacks (b ∷ bs) h =
    let parts = and_parts (is_literal_byte b) (list_all is_literal_byte bs) h in
    or_from (b == bar) (list_any (λ x. x == bar) bs) (not-true (b == bar) (and_parts _ _ parts.0).1) (literal_lacks bs parts.1)

-- a segment's text has no `|`
pub text_lacks : (s : Segment) (t : Text) (given : Slots) → is_segment s ≡ true → AreSegmentTexts given → Takes s t given → Lacks bar t
text_lacks (literal l) t given ok are h = subst (Lacks bar) h (literal_lacks l (and_parts (nat_le 1 (length l)) (list_all is_literal_byte l) ok).1)
text_lacks (slot place width) t given ok are h = (are place t h.1).1

-- the texts that segments take have no `|`
texts_lack : (p : Pattern) (ts : List Text) (given : Slots) → list_all is_segment p ≡ true → AreSegmentTexts given → TakeAll p ts given → AllByRecursion (Lacks bar) ts
texts_lack [] [] given ok are h = tt
texts_lack [] (t ∷ ts) given ok are h = absurd h
texts_lack (s ∷ ss) [] given ok are h = absurd h
texts_lack (s ∷ ss) (t ∷ ts) given ok are h =
    let parts = and_parts (is_segment s) (list_all is_segment ss) ok in
    (text_lacks s t given parts.0 are h.0, texts_lack ss ts given parts.1 are h.1)

-- the text of the first segment and those of the others
texts_by : (s : Segment) (ss : Pattern) (given : Slots) (o : Option Text) (r : Option (List Text)) (ts : List Text) → segment_text s given ≡ o → segment_texts ss given ≡ r
    → option_and_then (λ t. option_map (λ ts. t ∷ ts) r) o ≡ Some ts → (t : Text) × (us : List Text) × (segment_text s given ≡ Some t) × (segment_texts ss given ≡ Some us) × (ts ≡ t ∷ us)
texts_by s ss given None r ts a b h = absurd (none-some ts h)
texts_by s ss given (Some t) None ts a b h = absurd (none-some ts h)
texts_by s ss given (Some t) (Some us) ts a b h = (t, us, a, b, sym (same_Some _ _ h))

-- the texts of all segments, where each has one, are what they take
pub segment_texts_take : (p : Pattern) (ts : List Text) (given : Slots) → segment_texts p given ≡ Some ts → TakeAll p ts given
segment_texts_take [] ts given h = subst (λ us. TakeAll [] us given) (same_Some _ _ h) tt
segment_texts_take (s ∷ ss) ts given h =
    let w = texts_by s ss given (segment_text s given) (segment_texts ss given) ts refl refl h in
    subst (λ us. TakeAll (s ∷ ss) us given) (sym w.4) (segment_takes s w.0 given w.2, segment_texts_take ss w.1 given w.3)

-- what segments take are their texts
pub take_segment_texts : (p : Pattern) (ts : List Text) (given : Slots) → TakeAll p ts given → segment_texts p given ≡ Some ts
take_segment_texts [] [] given h = refl
take_segment_texts [] (t ∷ ts) given h = absurd h
take_segment_texts (s ∷ ss) [] given h = absurd h
take_segment_texts (s ∷ ss) (t ∷ ts) given h = rw (takes_segment s t given h.0, take_segment_texts ss ts given h.1)

-- a key of at most 512 bytes that fits is what is filled
pub fit_is_fill : FitIsFill
fit_is_fill p given key h small = rw (take_segment_texts p (segments key) given h, join-pieces bar key, le-leb (length key) 512 small)

-- the texts that segments take, joined, are a key that fits
pub join_fits : (p : Pattern) (ts : List Text) (given : Slots) → nat_le 2 (length p) ≡ true → list_all is_segment p ≡ true → AreSegmentTexts given → TakeAll p ts given → Fits p (join_with_byte bar ts) given
join_fits [] ts given two ok are h = absurd (false≢true two)
join_fits (s ∷ ss) [] given two ok are h = absurd h
join_fits (s ∷ ss) (t ∷ ts) given two ok are h =
    let e : segments (join_with_byte bar (t ∷ ts)) ≡ t ∷ ts = pieces-join bar t ts (All-from_recursion (Lacks bar) (t ∷ ts) (texts_lack (s ∷ ss) (t ∷ ts) given ok are h)) in
    subst (λ us. TakeAll (s ∷ ss) us given) (sym e) h

-- a pattern's segments may stand in one
pub segments_of_pattern : (p : Pattern) → is_pattern p ≡ true → list_all is_segment p ≡ true
segments_of_pattern p h = (and_parts _ (list_all is_segment p) h).1

-- a pattern has two segments or more
pub two_of_pattern : (p : Pattern) → is_pattern p ≡ true → nat_le 2 (length p) ≡ true
two_of_pattern p h = (and_parts _ _ (and_parts _ _ (and_parts _ _ h).0).0).0

-- a filled key fits, and is short
pub fill_fits : FillFits
fill_fits p given key ok are h = option_and_then_some _ (segment_texts p given) key h (λ ts texts e.
    let cut = cond_some (nat_le (length (join_with_byte bar ts)) 512) (join_with_byte bar ts) key e in
    let fit = join_fits p ts given (two_of_pattern p ok) (segments_of_pattern p ok) are (segment_texts_take p ts given texts) in
    (subst (λ k. Fits p k given) cut.1 fit, subst (λ k. length k ≤ 512) cut.1 (leb-true _ _ cut.0)))
