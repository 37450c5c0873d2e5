-- The slots that the keys of a range share.
use Rattle.std.proofs.Common.{◌≡◌, ℕ, zero, suc, ◌<◌, ◌≤◌, ◌==◌, Bool, true, false, List, [], ◌∷◌, ◌++◌, length, take, Option, Some, None, option_and_then, MatchOption, refl, sym, ap, ◌∙◌, subst, ⊎_elim, arith, append_assoc, eq-eqb}
use Rattle.std.specs.List.{list_all, AllByRecursion}
use Rattle.std.specs.Option.{IsSomeAnd, IfSome}
use Rattle.std.proofs.lemmas.Bool.{and_parts, and_from, cases_lt}
use Rattle.std.proofs.lemmas.List.Elements.{recursion_from_All}
use Rattle.semantics.specs.Texts.{Text, bar}
use Rattle.semantics.specs.Patterns.{Segment, Pattern, Slots, no_slots, is_segment, pieces, segments, Takes, TakeAll, Fits, IsPartOf, taken, take_all, bind}
use Rattle.semantics.specs.PatternLaws.{AreSegmentTexts}
use Rattle.semantics.proofs.PieceLemmas.{Lacks, HasParts, parts_of, pieces_lacking, pieces_lack}
use Rattle.semantics.proofs.PatternLemmas.{length-no_slots, no_slots_part, IsLeastTake, TakesNone, taken_least, IsWhole, take_all_least}
use Rattle.semantics.proofs.BindLemmas.{texts-no_slots, texts_bind, length-taken}
use Rattle.key_ranges.specs.Ranges.{without_last}
use Rattle.key_ranges.specs.Containing.{shared_beginning, shared_texts, take_first, bind_range}
use Rattle.key_ranges.specs.ContainingLaws.{HasNoFirst, IsLeastFirst, BindRangeIsLeast, BindRangeIsShared, BindRangeGivesSlots}
use Rattle.key_ranges.proofs.PrefixLemmas.{rest_of, without_last_push}
use Rattle.key_ranges.proofs.BeginningLemmas.{shared_is_beginning, within_shared}

-- ---- the pieces of a text that begins with another

-- one byte more on the first text
pieces_by : (c b : ℕ) (bs rest : Text) (x : Bool) → (b == c) ≡ x → HasParts c bs → pieces c (bs ++ c ∷ rest) ≡ pieces c bs ++ pieces c rest → pieces c (b ∷ bs ++ c ∷ rest) ≡ pieces c (b ∷ bs) ++ pieces c rest
pieces_by c b bs rest true e h ih = rw e (ap (λ ts. [] ∷ ts) ih)
pieces_by c b bs rest false e h ih = rw (e, ih, h.2)

-- the pieces before the byte c and those after it
pub pieces_cut : (c : ℕ) (t rest : Text) → pieces c (t ++ c ∷ rest) ≡ pieces c t ++ pieces c rest
pieces_cut c [] rest = rw (eq-eqb c c refl)
pieces_cut c (b ∷ bs) rest = pieces_by c b bs rest (b == c) refl (parts_of c bs) (pieces_cut c bs rest)

-- ---- what the first segments take

-- the slots, if any, are a part of others
abbrev ArePart : Slots → Option Slots → Type 0
ArePart more found = IsSomeAnd found (λ shared. IsPartOf shared more)

-- the first segment and then the others
shared_by : (s : Segment) (ss : Pattern) (t : Text) (ts : List Text) (given more : Slots) (o : Option Slots) → length given ≡ 16 → MatchOption o (TakesNone s t given) (IsLeastTake s t given)
    → Takes s t more → IsPartOf given more → ((next : Slots) → length next ≡ 16 → IsPartOf next more → ArePart more (take_first ss ts next))
    → ArePart more (option_and_then (λ next. take_first ss ts next) o)
shared_by s ss t ts given more None long one takes part rest = one more takes part
shared_by s ss t ts given more (Some next) long one takes part rest = rest next (one.long ∙ long) (one.least more takes part)

-- where the segments take these texts and more, the first segments take these, and give a part
pub take_first_shares : (p : Pattern) (ts : List Text) (u : Text) (us : List Text) (given more : Slots) → list_all is_segment p ≡ true → length given ≡ 16 → TakeAll p (ts ++ u ∷ us) more → IsPartOf given more → IsSomeAnd (take_first p ts given) (λ shared. IsPartOf shared more)
take_first_shares [] [] u us given more ok long h part = absurd h
take_first_shares [] (t ∷ ts) u us given more ok long h part = absurd h
take_first_shares (s ∷ ss) [] u us given more ok long h part = part
take_first_shares (s ∷ ss) (t ∷ ts) u us given more ok long h part =
    let parts = and_parts (is_segment s) (list_all is_segment ss) ok in
    shared_by s ss t ts given more (taken s t given) long (taken_least s t given parts.0 long) h.0 part (λ next l q. take_first_shares ss ts u us next more parts.1 l h.1 q)

-- slots of 16 places with texts that may stand for segments
abbrev ArePlaced : Slots → Type 0
ArePlaced given = (length given ≡ 16) × AreSegmentTexts given

-- a segment that takes a piece leaves such slots
placed_taken : (s : Segment) (t : Text) (given more : Slots) → Lacks bar t → ArePlaced given → taken s t given ≡ Some more → ArePlaced more
placed_taken s t given more lacks are h =
    let one : bind (s ∷ []) t given ≡ Some more = rw (pieces_lacking bar t lacks, h) in
    (length-taken s t given more h ∙ are.0, texts_bind (s ∷ []) t given more are.1 one)

-- the first segment and then the others
placed_by : (s : Segment) (ss : Pattern) (t : Text) (ts : List Text) (given : Slots) (o : Option Slots) → taken s t given ≡ o → Lacks bar t → ArePlaced given
    → ((more : Slots) → ArePlaced more → IfSome (take_first ss ts more) ArePlaced) → IfSome (option_and_then (λ more. take_first ss ts more) o) ArePlaced
placed_by s ss t ts given None e lacks are rest = tt
placed_by s ss t ts given (Some more) e lacks are rest = rest more (placed_taken s t given more lacks are e)

-- so do all that the first segments take
pub take_first_places : (p : Pattern) (ts : List Text) (given : Slots) → AllByRecursion (Lacks bar) ts → (length given ≡ 16) × AreSegmentTexts given → IfSome (take_first p ts given) (λ found. (length found ≡ 16) × AreSegmentTexts found)
take_first_places [] ts given lacks are = tt
take_first_places (s ∷ ss) [] given lacks are = are
take_first_places (s ∷ ss) (t ∷ ts) given lacks are =
    placed_by s ss t ts given (taken s t given) refl lacks.0 are (λ more q. take_first_places ss ts more lacks.1 q)

-- ---- the laws

-- the texts of the shared slots may stand for segments, in 16 places
pub bind_range_gives_slots : BindRangeGivesSlots
unfolding bind_range
bind_range_gives_slots output r =
    let front = without_last (shared_beginning r) in
    take_first_places output (segments front) no_slots (recursion_from_All (Lacks bar) (segments front) (pieces_lack bar front)) (length-no_slots, texts-no_slots)

-- where the texts that a key begins with are the first segments
shared_of : (output : Pattern) (front rest key : Text) (given : Slots) → list_all is_segment output ≡ true → key ≡ front ++ bar ∷ rest → Fits output key given → IsSomeAnd (take_first output (segments front) no_slots) (λ shared. IsPartOf shared given)
shared_of output front rest key given ok e h =
    let w = parts_of bar rest in
    let cut : segments key ≡ segments front ++ w.0 ∷ w.1 = ap segments e ∙ pieces_cut bar front rest ∙ ap (λ us. segments front ++ us) w.2 in
    take_first_shares output (segments front) w.0 w.1 no_slots given ok length-no_slots (subst (λ ts. TakeAll output ts given) cut h) (no_slots_part given)

-- the slots that a range shares are a part of those of each key of the range that fits
pub bind_range_is_shared : BindRangeIsShared
unfolding bind_range
bind_range_is_shared output r key given ok range inside h =
    let w = shared_is_beginning r range in
    let front = w.0.0 in
    let follows = rest_of key (front ++ bar ∷ []) (within_shared r front key w.0.2 w.1 inside) in
    let last : without_last (shared_beginning r) ≡ front = ap without_last w.0.2 ∙ without_last_push front bar in
    subst (λ t. IsSomeAnd (take_first output (segments t) no_slots) (λ shared. IsPartOf shared given)) (sym last)
    (shared_of output front follows.0 key given ok (follows.1 ∙ append_assoc front (bar ∷ []) follows.0) h)

-- ---- the least slots of the first segments

-- the first segment and then the others, alike
first_alike : (o : Option Slots) (f g : Slots → Option Slots) → ((more : Slots) → f more ≡ g more) → option_and_then f o ≡ option_and_then g o
first_alike None f g same = refl
first_alike (Some more) f g same = same more

-- where a segment is left, the first segments take the texts as a pattern of their own
first_as_pattern : (p : Pattern) (ts : List Text) (given : Slots) → length ts < length p → take_first p ts given ≡ take_all (take (length ts) p) ts given
first_as_pattern [] ts given left = absurd (omega arith)
first_as_pattern (s ∷ ss) [] given left = refl
first_as_pattern (s ∷ ss) (t ∷ ts) given left =
    first_alike (taken s t given) (λ more. take_first ss ts more) (λ more. take_all (take (length ts) ss) ts more) (λ more. first_as_pattern ss ts more (omega arith))

-- the first segment and then the others, none of which is left
none_after : (o : Option Slots) (f : Slots → Option Slots) → ((more : Slots) → f more ≡ None) → option_and_then f o ≡ None
none_after None f none = refl
none_after (Some more) f none = none more

-- where no segment is left, there are no slots
none_left : (p : Pattern) (ts : List Text) (given : Slots) → length p ≤ length ts → take_first p ts given ≡ None
none_left [] ts given over = refl
none_left (s ∷ ss) [] given over = absurd (omega arith)
none_left (s ∷ ss) (t ∷ ts) given over = none_after (taken s t given) (λ more. take_first ss ts more) (λ more. none_left ss ts more (omega arith))

-- the first segments of a pattern may stand in one
first_segments : (n : ℕ) (p : Pattern) → list_all is_segment p ≡ true → list_all is_segment (take n p) ≡ true
first_segments zero p ok = refl
first_segments (suc n) [] ok = refl
first_segments (suc n) (s ∷ ss) ok =
    let parts = and_parts (is_segment s) (list_all is_segment ss) ok in
    and_from (is_segment s) (list_all is_segment (take n ss)) parts.0 (first_segments n ss parts.1)

-- what the first segments may come to
abbrev AreLeastFirst : Pattern → List Text → Option Slots → Type 0
AreLeastFirst p ts o = MatchOption o (HasNoFirst p ts) (IsLeastFirst p ts)

-- the least slots of the pattern that the first segments are
least_first_by : (p : Pattern) (ts : List Text) (o : Option Slots) → length ts < length p → IsWhole (take (length ts) p) ts no_slots o → AreLeastFirst p ts o
least_first_by p ts None left none = λ other more h. none other h (no_slots_part other)
least_first_by p ts (Some found) left whole = record { left = left; takes = whole.takes; least = λ other h. whole.least other h (no_slots_part other) }

-- the first segments take texts under the least slots, if under any
least_first : (p : Pattern) (ts : List Text) → list_all is_segment p ≡ true → AreLeastFirst p ts (take_first p ts no_slots)
least_first p ts ok = ⊎_elim
    (λ (left : length ts < length p). subst (AreLeastFirst p ts) (sym (first_as_pattern p ts no_slots left))
    (least_first_by p ts (take_all (take (length ts) p) ts no_slots) left (take_all_least (take (length ts) p) ts no_slots (first_segments (length ts) p ok) length-no_slots)))
    (λ over. subst (AreLeastFirst p ts) (sym (none_left p ts no_slots over)) (λ other left h. absurd (omega arith)))
    (cases_lt (length ts) (length p))

-- the slots that a range shares are the least under which the first segments take those of its shared beginning
pub bind_range_is_least : BindRangeIsLeast
unfolding bind_range
bind_range_is_least output r ok = least_first output (shared_texts r) ok
