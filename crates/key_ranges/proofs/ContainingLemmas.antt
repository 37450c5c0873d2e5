-- The prefix range of a pattern.
use Rattle.std.proofs.Common.{◌≡◌, ◌⊎◌, ℕ, suc, ◌<◌, ◌≤◌, ◌==◌, Bool, true, false, cond, nat_eq, nat_le, List, [], ◌∷◌, ◌++◌, length, Option, Some, None, option_map, refl, sym, ap, ◌∙◌, subst, inl, inr, arith, append_assoc, append-nil, length-append, eqb-true, eq-eqb, leb-true, le-leb}
use Rattle.std.specs.List.{list_all, join_with_byte, starts_with}
use Rattle.std.specs.Option.{IsSomeAnd, IfSome}
use Rattle.std.proofs.lemmas.Bool.{and_parts, and_from, ne_eqb, false≢true}
use Rattle.std.proofs.lemmas.Option.{same_Some}
use Rattle.semantics.specs.Texts.{Text, bar, table_of, names_table, is_key, is_range, Range, within}
use Rattle.semantics.specs.Patterns.{Segment, literal, slot, Pattern, Slots, no_slots, text_at, is_literal_byte, is_segment, begins_with_table, is_pattern, segments, Takes, TakeAll, Fits, IsPartOf, short}
use Rattle.semantics.proofs.PieceLemmas.{Lacks, same_itself, join-pieces}
use Rattle.semantics.proofs.BindLemmas.{texts-no_slots}
use Rattle.semantics.proofs.PatternLemmas.{text_lacks, segments_of_pattern, two_of_pattern}
use Rattle.key_ranges.specs.Ranges.{prefix_range, just}
use Rattle.key_ranges.specs.Containing.{fixed_texts, fixed_range, pattern_range}
use Rattle.key_ranges.specs.ContainingLaws.{PatternRangeHolds, PatternRangeIsRange, PatternRangeBeginsWithKey}
use Rattle.key_ranges.proofs.PrefixLemmas.{begins_with, within-prefix_range, within-just, table_of-append, has_bar-append}
use Rattle.key_ranges.proofs.RangeLemmas.{prefix_range_is_range, just_is_range}

-- ---- joined texts

-- texts before others, joined with them
pub join-append : (c : ℕ) (t : Text) (ts : List Text) (u : Text) (us : List Text) → join_with_byte c ((t ∷ ts) ++ u ∷ us) ≡ join_with_byte c (t ∷ ts) ++ c ∷ join_with_byte c (u ∷ us)
join-append c t [] u us = refl
join-append c t (v ∷ vs) u us = ap (λ r. t ++ c ∷ r) (join-append c v vs u us) ∙ sym (append_assoc t (c ∷ join_with_byte c (v ∷ vs)) (c ∷ join_with_byte c (u ∷ us)))

-- joined texts with the byte c behind them begin with the first text and c
pub join_closed : (c : ℕ) (t : Text) (ts : List Text) → (rest : Text) × (join_with_byte c (t ∷ ts) ++ c ∷ [] ≡ t ++ c ∷ rest)
join_closed c t [] = ([], refl)
join_closed c t (u ∷ us) = (join_with_byte c (u ∷ us) ++ c ∷ [], append_assoc t (c ∷ join_with_byte c (u ∷ us)) (c ∷ []))

-- ---- the fixed texts of a source

-- a slot with a text goes on with the fixed texts
pub fixed_slot : (place width : ℕ) (ss : Pattern) (given : Slots) (t : Text) → text_at place given ≡ Some t → fixed_texts (slot place width ∷ ss) given ≡ t ∷ fixed_texts ss given
fixed_slot place width ss given t e = rw e

-- a slot without a text ends the fixed texts
pub fixed_end : (place width : ℕ) (ss : Pattern) (given : Slots) → text_at place given ≡ None → fixed_texts (slot place width ∷ ss) given ≡ []
fixed_end place width ss given e = rw e

-- the fixed texts are all of a key's segments, or fewer than the source's and the first of them
abbrev pub AreFirst : Pattern → List Text → List Text → Type 0
AreFirst p ts fixed = ((length fixed ≡ length p) × (fixed ≡ ts)) ⊎ ((length fixed < length p) × (u : Text) × (us : List Text) × (ts ≡ fixed ++ u ∷ us))

-- one segment more, with its text
pub first_by : (s : Segment) (ss : Pattern) (t : Text) (ts fixed : List Text) → AreFirst ss ts fixed → AreFirst (s ∷ ss) (t ∷ ts) (t ∷ fixed)
first_by s ss t ts fixed (inl all) = inl (ap suc all.0, ap (λ us. t ∷ us) all.1)
first_by s ss t ts fixed (inr some) = inr (omega (arith, some.0), some.1, some.2, ap (λ us. t ∷ us) some.3)

-- the text of a slot that the given slots set is the segment that it takes
slot_first : (place width : ℕ) (ss : Pattern) (t : Text) (ts : List Text) (given more : Slots) (o : Option Text) → text_at place given ≡ o → Takes (slot place width) t more → IsPartOf given more
    → AreFirst ss ts (fixed_texts ss given) → AreFirst (slot place width ∷ ss) (t ∷ ts) (fixed_texts (slot place width ∷ ss) given)
slot_first place width ss t ts given more None e takes part rest =
    subst (AreFirst (slot place width ∷ ss) (t ∷ ts)) (sym (fixed_end place width ss given e)) (inr (omega arith, t, ts, refl))
slot_first place width ss t ts given more (Some u) e takes part rest =
    let one : u ≡ t = same_Some u t (sym (part place u e) ∙ takes.1) in
    subst (AreFirst (slot place width ∷ ss) (t ∷ ts)) (sym (fixed_slot place width ss given t (e ∙ ap Some one))) (first_by (slot place width) ss t ts (fixed_texts ss given) rest)

-- the fixed texts under slots are the first that the segments take under more
pub fixed_are_first : (p : Pattern) (ts : List Text) (given more : Slots) → TakeAll p ts more → IsPartOf given more → AreFirst p ts (fixed_texts p given)
fixed_are_first [] [] given more h part = inl (refl, refl)
fixed_are_first [] (t ∷ ts) given more h part = absurd h
fixed_are_first (s ∷ ss) [] given more h part = absurd h
fixed_are_first (literal l ∷ ss) (t ∷ ts) given more h part =
    subst (λ u. AreFirst (literal l ∷ ss) (u ∷ ts) (l ∷ fixed_texts ss given)) h.0 (first_by (literal l) ss l ts (fixed_texts ss given) (fixed_are_first ss ts given more h.1 part))
fixed_are_first (slot place width ∷ ss) (t ∷ ts) given more h part =
    slot_first place width ss t ts given more (text_at place given) refl h.0 part (fixed_are_first ss ts given more h.1 part)

-- ---- what the containing range holds

-- a short text is itself
pub short_some : (t : Text) → length t ≤ 512 → short t ≡ Some t
short_some t h = rw (le-leb (length t) 512 h)

-- the range of the one key that all texts make
all_fixed : (ts : List Text) (key : Text) → length key ≤ 512 → join_with_byte bar ts ≡ key → IsSomeAnd (fixed_range true ts) (λ r. within r key ≡ true)
all_fixed ts key small e = rw (e, short_some key small) (within-just key key ∙ same_itself key)

-- the range of the keys that begin with some texts
some_fixed : (t : Text) (ts : List Text) (rest key : Text) → length key ≤ 512 → key ≡ join_with_byte bar (t ∷ ts) ++ bar ∷ rest → IsSomeAnd (fixed_range false (t ∷ ts)) (λ r. within r key ≡ true)
some_fixed t ts rest key small e =
    let front = join_with_byte bar (t ∷ ts) in
    let whole : key ≡ (front ++ bar ∷ []) ++ rest = e ∙ sym (append_assoc front (bar ∷ []) rest) in
    let fits : length (front ++ bar ∷ []) ≤ 512 = omega (arith, small, ap length whole, length-append (front ++ bar ∷ []) rest) in
    let begins : starts_with nat_eq key (front ++ bar ∷ []) ≡ true = subst (λ k. starts_with nat_eq k (front ++ bar ∷ []) ≡ true) (sym whole) (begins_with (front ++ bar ∷ []) rest) in
    rw (short_some (front ++ bar ∷ []) fits) (within-prefix_range front key ∙ begins)

-- the range is chosen by whether all segments are fixed
chosen : (fixed : List Text) (p : Pattern) (x : Bool) (P : Range → Type 0) → (length fixed == length p) ≡ x → IsSomeAnd (fixed_range x fixed) P → IsSomeAnd (fixed_range (length fixed == length p) fixed) P
chosen fixed p x P e h = subst (λ b. IsSomeAnd (fixed_range b fixed) P) (sym e) h

-- a key whose first segments are the fixed texts lies in the range
holds_by : (t : Text) (fixed : List Text) (p : Pattern) (key : Text) → length key ≤ 512 → AreFirst p (segments key) (t ∷ fixed) → IsSomeAnd (fixed_range (length (t ∷ fixed) == length p) (t ∷ fixed)) (λ r. within r key ≡ true)
holds_by t fixed p key small (inl all) =
    chosen (t ∷ fixed) p true (λ r. within r key ≡ true) (eq-eqb _ _ all.0) (all_fixed (t ∷ fixed) key small (ap (join_with_byte bar) all.1 ∙ join-pieces bar key))
holds_by t fixed p key small (inr some) =
    let whole = sym (join-pieces bar key) ∙ ap (join_with_byte bar) some.3 ∙ join-append bar t fixed some.1 some.2 in
    chosen (t ∷ fixed) p false (λ r. within r key ≡ true) (ne_eqb _ _ (λ e. omega (arith, some.0, e))) (some_fixed t fixed (join_with_byte bar (some.1 ∷ some.2)) key small whole)

-- a source begins with the name of its table
begins_by : (p : Pattern) → begins_with_table p ≡ true → (l : Text) × (ss : Pattern) × (p ≡ literal l ∷ ss) × (nat_le (length l) 64 ≡ true)
begins_by [] h = absurd (false≢true h)
begins_by (literal l ∷ ss) h = (l, ss, refl, h)
begins_by (slot place width ∷ ss) h = absurd (false≢true h)

-- the same of a pattern
pub pattern_begins : (p : Pattern) → is_pattern p ≡ true → (l : Text) × (ss : Pattern) × (p ≡ literal l ∷ ss) × (nat_le (length l) 64 ≡ true)
pattern_begins p h = begins_by p (and_parts _ (begins_with_table p) (and_parts _ (list_all is_segment p) h).0).1

-- the same of a source by its parts
holds_literal : (l : Text) (ss : Pattern) (given more : Slots) (key : Text) → length key ≤ 512 → Fits (literal l ∷ ss) key more → IsPartOf given more → IsSomeAnd (pattern_range (literal l ∷ ss) given) (λ r. within r key ≡ true)
unfolding pattern_range
holds_literal l ss given more key small h part =
    holds_by l (fixed_texts ss given) (literal l ∷ ss) key small (fixed_are_first (literal l ∷ ss) (segments key) given more h part)

-- every key that fits a pattern under slots of which the given ones are a part lies in its prefix range, whatever texts these give
pub pattern_range_holds : PatternRangeHolds
pattern_range_holds source given more key ok small h part =
    let w = pattern_begins source ok in
    subst (λ p. IsSomeAnd (pattern_range p given) (λ r. within r key ≡ true)) (sym w.2)
    (holds_literal w.0 w.1 given more key small (subst (λ p. Fits p key more) w.2 h) part)

-- ---- the prefix range is a range

-- the bounds are a range, which holds the first of them, a key
abbrev IsRange : Range → Type 0
IsRange r = (is_range r.low r.high ≡ true) × (is_key r.low ≡ true) × (within r r.low ≡ true)

-- a text that begins with a table's name and `|` names it
pub names_from_name : (name rest : Text) → nat_le 1 (length name) ≡ true → nat_le (length name) 64 ≡ true → Lacks bar name → names_table (name ++ bar ∷ rest) ≡ true
names_from_name name rest some small lacks =
    let is : table_of (name ++ bar ∷ rest) ≡ name = table_of-append name rest lacks in
    and_from _ _
    (and_from _ _ (has_bar-append name rest) (subst (λ t. nat_le 1 (length t) ≡ true) (sym is) some))
    (subst (λ t. nat_le (length t) 64 ≡ true) (sym is) small)

-- the range of one short text that names a table
just_by : (t : Text) (x : Bool) → nat_le (length t) 512 ≡ x → names_table t ≡ true → IfSome (option_map just (cond x (Some t) None)) IsRange
just_by t true e names = let key = and_from _ _ e names in (just_is_range t key, key, within-just t t ∙ same_itself t)
just_by t false e names = tt

-- the range of all texts that begin with one
prefix_by : (t : Text) (x : Bool) → nat_le (length (t ++ bar ∷ [])) 512 ≡ x → names_table (t ++ bar ∷ []) ≡ true → IfSome (option_map prefix_range (cond x (Some (t ++ bar ∷ [])) None)) IsRange
prefix_by t true e names =
    let key = and_from _ _ e names in
    let q = t ++ bar ∷ [] in
    (prefix_range_is_range t key, key, within-prefix_range t q ∙ subst (λ u. starts_with nat_eq u q ≡ true) (append-nil q) (begins_with q []))
prefix_by t false e names = tt

-- what a table's name is
pub record IsName (l : Text) : Type 0 where
  pub some : nat_le 1 (length l) ≡ true
  pub small : nat_le (length l) 64 ≡ true
  pub lacks : Lacks bar l

-- the texts of all segments, two at least, name a table
all_name : (l : Text) (fixed : List Text) (n : ℕ) → IsName l → 2 ≤ n → length (l ∷ fixed) ≡ n → names_table (join_with_byte bar (l ∷ fixed)) ≡ true
all_name l [] n name two e = absurd (omega (arith, two, e))
all_name l (u ∷ us) n name two e = names_from_name l (join_with_byte bar (u ∷ us)) name.some name.small name.lacks

-- so do the first texts and `|`
some_name : (l : Text) (fixed : List Text) → IsName l → names_table (join_with_byte bar (l ∷ fixed) ++ bar ∷ []) ≡ true
some_name l fixed name =
    let w = join_closed bar l fixed in
    subst (λ u. names_table u ≡ true) (sym w.1) (names_from_name l w.0 name.some name.small name.lacks)

-- the texts of all segments make a key
all_by : (l : Text) (fixed : List Text) (n : ℕ) → IsName l → 2 ≤ n → length (l ∷ fixed) ≡ n → IfSome (fixed_range true (l ∷ fixed)) IsRange
all_by l fixed n name two e =
    let t = join_with_byte bar (l ∷ fixed) in
    just_by t (nat_le (length t) 512) refl (all_name l fixed n name two e)

-- the first texts and `|` make a beginning of one
some_by : (l : Text) (fixed : List Text) → IsName l → IfSome (fixed_range false (l ∷ fixed)) IsRange
some_by l fixed name =
    let t = join_with_byte bar (l ∷ fixed) in
    prefix_by t (nat_le (length (t ++ bar ∷ [])) 512) refl (some_name l fixed name)

-- whichever is chosen
range_by : (l : Text) (fixed : List Text) (n : ℕ) (x : Bool) → IsName l → 2 ≤ n → (length (l ∷ fixed) == n) ≡ x → IfSome (fixed_range x (l ∷ fixed)) IsRange
range_by l fixed n true name two e = all_by l fixed n name two (eqb-true _ n e)
range_by l fixed n false name two e = some_by l fixed name

-- the same of a source by its parts
range_literal : (l : Text) (ss : Pattern) (given : Slots) → IsName l → 2 ≤ length (literal l ∷ ss) → IfSome (pattern_range (literal l ∷ ss) given) IsRange
unfolding pattern_range
range_literal l ss given name two = range_by l (fixed_texts ss given) (length (literal l ∷ ss)) (length (l ∷ fixed_texts ss given) == length (literal l ∷ ss)) name two refl

-- the first segment of a pattern is a table's name
name_of : (l : Text) (ss : Pattern) → list_all is_segment (literal l ∷ ss) ≡ true → nat_le (length l) 64 ≡ true → IsName l
name_of l ss ok small =
    let one = (and_parts (is_segment (literal l)) (list_all is_segment ss) ok).0 in
    record { some = (and_parts (nat_le 1 (length l)) (list_all is_literal_byte l) one).0; small = small; lacks = text_lacks (literal l) l no_slots one texts-no_slots refl }

-- a pattern by its parts
pattern_named : (p : Pattern) → is_pattern p ≡ true → (l : Text) × (ss : Pattern) × (p ≡ literal l ∷ ss) × IsName l
pattern_named p ok =
    let w = pattern_begins p ok in
    let all = subst (λ q. list_all is_segment q ≡ true) w.2 (segments_of_pattern p ok) in
    (w.0, w.1, w.2, name_of w.0 w.1 all w.3)

-- the fixed texts of a pattern, where they are all, name a table
pub all_fixed_name : (p : Pattern) (given : Slots) → is_pattern p ≡ true → length (fixed_texts p given) ≡ length p → names_table (join_with_byte bar (fixed_texts p given)) ≡ true
all_fixed_name p given ok e =
    let w = pattern_named p ok in
    let two = leb-true 2 (length p) (two_of_pattern p ok) in
    subst (λ ts. names_table (join_with_byte bar ts) ≡ true) (sym (ap (λ q. fixed_texts q given) w.2))
    (all_name w.0 (fixed_texts w.1 given) (length p) w.3 two (ap length (sym (ap (λ q. fixed_texts q given) w.2)) ∙ e))

-- so do those of its longest fixed beginning and `|`
pub fixed_name : (p : Pattern) (given : Slots) → is_pattern p ≡ true → names_table (join_with_byte bar (fixed_texts p given) ++ bar ∷ []) ≡ true
fixed_name p given ok =
    let w = pattern_named p ok in
    subst (λ ts. names_table (join_with_byte bar ts ++ bar ∷ []) ≡ true) (sym (ap (λ q. fixed_texts q given) w.2)) (some_name w.0 (fixed_texts w.1 given) w.3)

-- the prefix range of a pattern is a range, which holds its first bound, a key
range_of_pattern : (pattern : Pattern) (given : Slots) → is_pattern pattern ≡ true → IfSome (pattern_range pattern given) IsRange
range_of_pattern source given ok =
    let w = pattern_named source ok in
    let two = subst (λ p. nat_le 2 (length p) ≡ true) w.2 (two_of_pattern source ok) in
    subst (λ p. IfSome (pattern_range p given) IsRange) (sym w.2) (range_literal w.0 w.1 given w.3 (leb-true 2 (length (literal w.0 ∷ w.1)) two))

-- what is said of some range, less said
less_said : (P Q : Range → Type 0) (o : Option Range) → ((r : Range) → P r → Q r) → IfSome o P → IfSome o Q
less_said P Q None less h = tt
less_said P Q (Some r) less h = less r h

-- the prefix range of a pattern is a range
pub pattern_range_is_range : PatternRangeIsRange
pattern_range_is_range pattern given ok = less_said IsRange (λ r. is_range r.low r.high ≡ true) (pattern_range pattern given) (λ r h. h.0) (range_of_pattern pattern given ok)

-- the first bound of a pattern's prefix range is a key, which it holds
pub pattern_range_begins_with_key : PatternRangeBeginsWithKey
pattern_range_begins_with_key pattern given ok =
    less_said IsRange (λ r. (is_key r.low ≡ true) × (within r r.low ≡ true)) (pattern_range pattern given) (λ r h. (h.1, h.2)) (range_of_pattern pattern given ok)
