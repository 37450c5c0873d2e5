-- What two ranges have in common, the ranges of one beginning and of one key, and the table of a range.
use Rattle.std.proofs.Common.{◌≡◌, Bool, true, false, cond, ◌&&◌, ◌||◌, ◌==◌, nat_eq, nat_le, [], ◌∷◌, ◌++◌, length, Some, None, MatchOption, refl, sym, ap, ◌∙◌, subst, ⊎_elim, arith, length-append, append-nil, leb-true, le-leb}
use Rattle.std.specs.Ordering.{is_le}
use Rattle.std.specs.List.{starts_with}
use Rattle.std.specs.Option.{IfSome}
use Rattle.std.proofs.lemmas.Bool.{false≢true, false_from_ne_true, and_parts, and_from, or_cases, or_left, or_right, cond_both}
use Rattle.std.proofs.lemmas.List.Folds.{list_any-append}
use Rattle.semantics.specs.Texts.{Text, bar, brace, same, has_bar, table_of, names_table, ends_range, is_range, Range, within}
use Rattle.semantics.proofs.PieceLemmas.{equal_by_same, same_itself}
use Rattle.key_ranges.specs.Ranges.{is_below, is_open, meets, later, earlier, common}
use Rattle.key_ranges.specs.RangeLaws.{CutIsCommonPart, CutIsOpen, HoldersMeet, MeetIsShared, CutIsRange, PrefixRangeIsRange, JustIsRange}
use Rattle.key_ranges.proofs.OrderLemmas.{is_up_to, up_to_itself, up_to_from_below, up_to_below, below_up_to, up_to_trans, later_up_to, below_earlier}
use Rattle.key_ranges.proofs.PrefixLemmas.{closed_push, text_cmp-append, within-prefix_range, within-just, table_of-append, named, table_from_beginning, begins_with_table, table_of-more}

-- ---- keys of two ranges

-- what two ranges ask of a key, by their bounds
and_exchange : (a b c d : Bool) → ((a && b) && (c && d)) ≡ ((a && c) && (b && d))
and_exchange true b true d = refl
and_exchange true true false d = refl
and_exchange true false false d = refl
and_exchange false b c d = refl

-- the common part of two ranges holds the keys that both hold, whether they meet or not
pub within-common : (r s : Range) (key : Text) → within (common r s) key ≡ (within r key && within s key)
within-common r s key =
    rw (later_up_to r.low s.low key, below_earlier r.high s.high key) (and_exchange (is_up_to r.low key) (is_up_to s.low key) (is_below key r.high) (is_below key s.high))

-- two ranges that hold one key meet
pub holders_meet : HoldersMeet
holders_meet r s key h g =
    let inside = and_parts (is_up_to r.low key) (is_below key r.high) h in
    let within_other = and_parts (is_up_to s.low key) (is_below key s.high) g in
    and_from _ _
    (and_from _ _
    (and_from _ _ (up_to_below r.low key r.high inside.0 inside.1) (up_to_below s.low key s.high within_other.0 within_other.1))
    (up_to_below r.low key s.high inside.0 within_other.1))
    (up_to_below s.low key r.high within_other.0 inside.1)

-- the common part, where there is one, and otherwise no common key
common_part_by : (r s : Range) (x : Bool) → meets r s ≡ x
    → MatchOption (cond x (Some (common r s)) None) ((key : Text) → (within r key && within s key) ≡ false) (λ c. (key : Text) → within c key ≡ (within r key && within s key))
common_part_by r s true e = λ key. within-common r s key
common_part_by r s false e = λ key.
    false_from_ne_true (within r key && within s key) (λ both.
    let parts = and_parts (within r key) (within s key) both in
    false≢true (sym e ∙ holders_meet r s key parts.0 parts.1))

-- the common part of two ranges holds the keys that both hold
pub cut_is_common_part : CutIsCommonPart
cut_is_common_part r s = common_part_by r s (meets r s) refl

-- what holds of two texts holds of the greater
later_has : (P : Text → Type 0) (a b : Text) → P a → P b → P (later a b)
later_has P a b p q = cond_both (is_below a b) b a P (λ e. q) (λ e. p)

-- and of the lesser
earlier_has : (P : Text → Type 0) (a b : Text) → P a → P b → P (earlier a b)
earlier_has P a b p q = cond_both (is_below b a) b a P (λ e. q) (λ e. p)

-- ---- the table of a range

-- what the bounds of a range are
pub record AreBounds (low high : Text) : Type 0 where
  pub short_low : nat_le (length low) 513 ≡ true
  pub short_high : nat_le (length high) 513 ≡ true
  pub names : names_table low ≡ true
  pub ends : ends_range low high ≡ true
  pub ascend : is_up_to low high ≡ true

-- the bounds of a range
pub bounds_of : (low high : Text) → is_range low high ≡ true → AreBounds low high
bounds_of low high h =
    let all = and_parts _ (is_up_to low high) h in
    let four = and_parts _ (ends_range low high) all.0 in
    let three = and_parts _ (names_table low) four.0 in
    let two = and_parts (nat_le (length low) 513) (nat_le (length high) 513) three.0 in
    record { short_low = two.0; short_high = two.1; names = three.1; ends = four.1; ascend = all.1 }

-- such bounds are a range
pub range_from_bounds : (low high : Text) → AreBounds low high → is_range low high ≡ true
range_from_bounds low high h = and_from _ _ (and_from _ _ (and_from _ _ (and_from _ _ h.short_low h.short_high) h.names) h.ends) h.ascend

-- a text that names a table has `|`
pub bar_of_names : (t : Text) → names_table t ≡ true → has_bar t ≡ true
bar_of_names t h = (and_parts (has_bar t) _ (and_parts _ _ h).0).0

-- `|` stays in a text with more behind it
list_any_more : (t more : Text) → has_bar t ≡ true → has_bar (t ++ more) ≡ true
list_any_more t more h = list_any-append (λ b. b == bar) t more ∙ or_left (has_bar t) (has_bar more) h

-- a text with more behind it names the same table
pub names_more : (t more : Text) → names_table t ≡ true → names_table (t ++ more) ≡ true
names_more t more h =
    let barred = bar_of_names t h in
    let parts = and_parts _ _ h in
    let table : table_of (t ++ more) ≡ table_of t = table_of-more t more barred in
    and_from _ _
    (and_from _ _ (list_any_more t more barred) (subst (λ name. nat_le 1 (length name) ≡ true) (sym table) (and_parts _ _ parts.0).1))
    (subst (λ name. nat_le (length name) 64 ≡ true) (sym table) parts.1)

-- a range lies within that of its table
pub up_to_table : (low high : Text) → is_range low high ≡ true → is_up_to high (table_of low ++ brace ∷ []) ≡ true
up_to_table low high h = ⊎_elim
    (λ (e : starts_with nat_eq high (table_of low ++ bar ∷ []) ≡ true). up_to_from_below high (table_of low ++ brace ∷ []) (and_parts _ _ (rw closed_push at (within-prefix_range (table_of low) high ∙ e))).1)
    (λ e. subst (λ t. is_up_to high t ≡ true) (equal_by_same _ _ e) (up_to_itself high))
    (or_cases _ _ (bounds_of low high h).ends)

-- a range begins in that of its table
pub table_up_to : (low high : Text) → is_range low high ≡ true → is_up_to (table_of low ++ bar ∷ []) low ≡ true
table_up_to low high h =
    let bar_in : has_bar low ≡ true = bar_of_names low (bounds_of low high h).names in
    let whole = within-prefix_range (table_of low) low ∙ subst (λ t. starts_with nat_eq t (table_of low ++ bar ∷ []) ≡ true) (append-nil low) (begins_with_table low [] bar_in) in
    (and_parts _ _ whole).0

-- a key of a range begins with the name of the range's table and `|`
pub within_begins : (r : Range) (key : Text) → is_range r.low r.high ≡ true → within r key ≡ true → starts_with nat_eq key (table_of r.low ++ bar ∷ []) ≡ true
within_begins r key h g =
    let inside = and_parts (is_up_to r.low key) (is_below key r.high) g in
    let low : is_up_to (table_of r.low ++ bar ∷ []) key ≡ true = up_to_trans (table_of r.low ++ bar ∷ []) r.low key (table_up_to r.low r.high h) inside.0 in
    let high : is_below key (table_of r.low ++ brace ∷ []) ≡ true = below_up_to key r.high (table_of r.low ++ brace ∷ []) inside.1 (up_to_table r.low r.high h) in
    sym (within-prefix_range (table_of r.low) key) ∙ rw closed_push (and_from _ _ low high)

-- a key of a range is of the range's table
pub within_table : (r : Range) (key : Text) → is_range r.low r.high ≡ true → within r key ≡ true → table_of key ≡ table_of r.low
within_table r key h g =
    table_from_beginning key (table_of r.low) (named r.low (bar_of_names r.low (bounds_of r.low r.high h).names)).2 (within_begins r key h g)

-- ---- the common part of two ranges

-- the parts of what two ranges that meet are
pub record DoMeet (r s : Range) : Type 0 where
  pub open_first : is_below r.low r.high ≡ true
  pub open_second : is_below s.low s.high ≡ true
  pub first_below : is_below r.low s.high ≡ true
  pub second_below : is_below s.low r.high ≡ true

-- two ranges that meet
pub meets_parts : (r s : Range) → meets r s ≡ true → DoMeet r s
meets_parts r s h =
    let three = and_parts _ (is_below s.low r.high) h in
    let two = and_parts _ (is_below r.low s.high) three.0 in
    let both = and_parts (is_below r.low r.high) (is_below s.low s.high) two.0 in
    record { open_first = both.0; open_second = both.1; first_below = two.1; second_below = three.1 }

-- the common part of two ranges that meet is not empty
pub common_is_open : (r s : Range) → meets r s ≡ true → is_below (later r.low s.low) (earlier r.high s.high) ≡ true
common_is_open r s h =
    let parts = meets_parts r s h in
    below_earlier r.high s.high (later r.low s.low)
    ∙ and_from _ _
    (later_has (λ t. is_below t r.high ≡ true) r.low s.low parts.open_first parts.second_below)
    (later_has (λ t. is_below t s.high ≡ true) r.low s.low parts.first_below parts.open_second)

-- the common part, where there is one, is not empty
cut_open_by : (r s : Range) (x : Bool) → meets r s ≡ x → IfSome (cond x (Some (common r s)) None) (λ c. is_open c ≡ true)
cut_open_by r s true e = common_is_open r s e
cut_open_by r s false e = tt

-- the common part of two ranges is not empty
pub cut_is_open : CutIsOpen
cut_is_open r s = cut_open_by r s (meets r s) refl

-- each of two ranges that meet holds the greater first bound
pub common_holds_low : MeetIsShared
common_holds_low r s h =
    let low = later r.low s.low in
    and_parts (within r low) (within s low) (sym (within-common r s low) ∙ and_from _ _ (up_to_itself low) (common_is_open r s h))

-- ranges that meet are of one table
pub meet_in_table : (r s : Range) → is_range r.low r.high ≡ true → is_range s.low s.high ≡ true → meets r s ≡ true → table_of r.low ≡ table_of s.low
meet_in_table r s hr hs h =
    let low = later r.low s.low in
    let both = common_holds_low r s h in
    sym (within_table r low hr both.0) ∙ within_table s low hs both.1

-- whether a last bound is of a table
abbrev pub EndsTable : Text → Text → Type 0
EndsTable table high = (starts_with nat_eq high (table ++ bar ∷ []) || same high (table ++ brace ∷ [])) ≡ true

-- the common part of two ranges that meet is a range
pub common_is_range : (r s : Range) → is_range r.low r.high ≡ true → is_range s.low s.high ≡ true → meets r s ≡ true → is_range (common r s).low (common r s).high ≡ true
common_is_range r s hr hs h =
    let first = bounds_of r.low r.high hr in
    let second = bounds_of s.low s.high hs in
    let table = meet_in_table r s hr hs h in
    let low = later r.low s.low in
    let high = earlier r.high s.high in
    let one : table_of low ≡ table_of r.low = later_has (λ t. table_of t ≡ table_of r.low) r.low s.low refl (sym table) in
    let ends : EndsTable (table_of r.low) high = earlier_has (EndsTable (table_of r.low)) r.high s.high first.ends (subst (λ t. EndsTable t s.high) (sym table) second.ends) in
    range_from_bounds low high (record {
      short_low = later_has (λ t. nat_le (length t) 513 ≡ true) r.low s.low first.short_low second.short_low;
      short_high = earlier_has (λ t. nat_le (length t) 513 ≡ true) r.high s.high first.short_high second.short_high;
      names = later_has (λ t. names_table t ≡ true) r.low s.low first.names second.names;
      ends = subst (λ t. EndsTable t high) (sym one) ends;
      ascend = up_to_from_below low high (common_is_open r s h);
    })

-- the common part, where there is one, is a range
cut_range_by : (r s : Range) (x : Bool) → is_range r.low r.high ≡ true → is_range s.low s.high ≡ true → meets r s ≡ x → IfSome (cond x (Some (common r s)) None) (λ c. is_range c.low c.high ≡ true)
cut_range_by r s true hr hs e = common_is_range r s hr hs e
cut_range_by r s false hr hs e = tt

-- the common part of two ranges is a range
pub cut_is_range : CutIsRange
cut_is_range r s hr hs = cut_range_by r s (meets r s) hr hs refl

-- ---- ranges of one beginning and of one key

-- a text short enough for a key is short enough for a bound
pub short_bound : (t : Text) → nat_le (length t) 512 ≡ true → nat_le (length t) 513 ≡ true
short_bound t h = le-leb (length t) 513 (let l = leb-true (length t) 512 h in omega arith)

-- the last bound of the prefix range is of the table that its first one names
prefix_ends : (t : Text) (x : Bool) → has_bar t ≡ x → ends_range (t ++ bar ∷ []) (t ++ brace ∷ []) ≡ true
prefix_ends t true e = or_left _ _ (subst (λ name. starts_with nat_eq (t ++ brace ∷ []) (name ++ bar ∷ []) ≡ true) (sym (table_of-more t (bar ∷ []) e)) (begins_with_table t (brace ∷ []) e))
prefix_ends t false e = or_right _ _ (subst (λ name. same (t ++ brace ∷ []) (name ++ brace ∷ []) ≡ true) (sym (table_of-append t [] e)) (same_itself (t ++ brace ∷ [])))

-- the prefix range of a key that ends with `|` is a range
pub prefix_range_is_range : PrefixRangeIsRange
prefix_range_is_range t h =
    let key = and_parts (nat_le (length (t ++ bar ∷ [])) 512) (names_table (t ++ bar ∷ [])) h in
    let long : length (t ++ brace ∷ []) ≡ length (t ++ bar ∷ []) = omega (arith, length-append t (brace ∷ []), length-append t (bar ∷ [])) in
    subst (λ high. is_range (t ++ bar ∷ []) high ≡ true) (sym (closed_push t bar))
    (range_from_bounds (t ++ bar ∷ []) (t ++ brace ∷ []) (record {
      short_low = short_bound (t ++ bar ∷ []) key.0;
      short_high = short_bound (t ++ brace ∷ []) (subst (λ n. nat_le n 512 ≡ true) (sym long) key.0);
      names = key.1;
      ends = prefix_ends t (has_bar t) refl;
      ascend = ap is_le (text_cmp-append t (bar ∷ []) (brace ∷ []));
    }))

-- the range of one key is a range
pub just_is_range : JustIsRange
just_is_range key h =
    let parts = and_parts (nat_le (length key) 512) (names_table key) h in
    let holds = and_parts (is_up_to key key) (is_below key (key ++ 0 ∷ [])) (within-just key key ∙ same_itself key) in
    range_from_bounds key (key ++ 0 ∷ []) (record {
      short_low = short_bound key parts.0;
      short_high = le-leb (length (key ++ 0 ∷ [])) 513 (let l = leb-true (length key) 512 parts.0 in omega (arith, length-append key (0 ∷ [])));
      names = parts.1;
      ends = or_left _ _ (begins_with_table key (0 ∷ []) (bar_of_names key parts.1));
      ascend = up_to_from_below key (key ++ 0 ∷ []) holds.1;
    })
