-- The group of a key, and ranges inside one group.
use Rattle.std.proofs.Common.{◌≡◌, ℕ, suc, ◌+◌, Bool, true, false, cond, not, ◌||◌, ◌==◌, nat_eq, [], ◌∷◌, ◌++◌, length, drop, get_or, Some, refl, sym, ap, ◌∙◌, subst, ⊎_elim, append_assoc, eq-eqb, lit<, arith}
use Rattle.std.specs.Bool.{Decides}
use Rattle.std.specs.Borrow.{Bor}
use Rattle.std.specs.List.{starts_with, position_or_len}
use Rattle.std.proofs.lemmas.Bool.{false≢true, and_from, and_parts, or_parts, or_cases, or_from, or_right}
use Rattle.std.proofs.lemmas.List.{drop_all}
use Rattle.std.proofs.lemmas.List.Folds.{list_any-append}
use Rattle.std.proofs.lemmas.Str.Pattern.{IsSplitOnceResult, split_parts, split_once_first}
use Rattle.semantics.specs.Texts.{Text, bar, brace, same, has_bar, table_of, is_range, Range, within}
use Rattle.semantics.proofs.PieceLemmas.{Lacks, equal_by_same}
use Rattle.key_ranges.specs.Ranges.{is_below}
use Rattle.key_ranges.proofs.OrderLemmas.{is_up_to, up_to_itself, up_to_from_below, below_up_to, up_to_trans}
use Rattle.key_ranges.proofs.PrefixLemmas.{begins_with, rest_of, within_prefix, table_of-append, has_bar-append, table_from_beginning, named}
use Rattle.key_ranges.proofs.RangeLemmas.{bounds_of, bar_of_names}
use Rattle.key_space.proofs.NameLemmas.{ends_by}
use Rattle.base_versions.specs.Groups.{behind_bar, group_of}

-- ---- what stands behind the first `|`

-- nothing, where there is none
pub behind_bar-none : (text : Text) → position_or_len (λ b. b == bar) text ≡ length text → behind_bar text ≡ []
behind_bar-none text h = ap (λ n. drop (n + 1) text) h ∙ drop_all (length text + 1) text (omega arith)

behind_bar-cut : (b : ℕ) (bs : Text) → (b == bar) ≡ true → behind_bar (b ∷ bs) ≡ bs
behind_bar-cut b bs e = ap (λ t. drop (cond (not t) (1 + position_or_len (λ x. x == bar) bs) 0 + 1) (b ∷ bs)) e

behind_bar-onto : (b : ℕ) (bs : Text) → (b == bar) ≡ false → behind_bar (b ∷ bs) ≡ behind_bar bs
behind_bar-onto b bs e =
    let n : ℕ = position_or_len (λ x. x == bar) bs in
    let next : 1 + n + 1 ≡ suc (n + 1) = omega arith in
    ap (λ t. drop (cond (not t) (1 + n) 0 + 1) (b ∷ bs)) e ∙ ap (λ k. drop k (b ∷ bs)) next

-- behind a name and `|` what follows
pub behind_bar-append : (name rest : Text) → Lacks bar name → behind_bar (name ++ bar ∷ rest) ≡ rest
behind_bar-append [] rest h = behind_bar-cut bar rest (eq-eqb bar bar refl)
behind_bar-append (b ∷ bs) rest h =
    let parts = or_parts (b == bar) (has_bar bs) h in
    behind_bar-onto b (bs ++ bar ∷ rest) parts.0 ∙ behind_bar-append bs rest parts.1

-- ---- a text that is cut at its first `|`

-- what stands before it, and what behind it
pub record IsCutAtBar (text name rest : Text) : Type 0 where
  pub whole : text ≡ name ++ bar ∷ rest
  pub lacks : Lacks bar name

-- as `split_once` cuts it
pub cut_at_bar : (text : Text) (x : Bor Text × Bor Text) → IsSplitOnceResult 124 text (Some x) → IsCutAtBar text x.0.now x.1.now
cut_at_bar text x h =
    let parts = split_parts 124 text (Some x) h (lit< tt) in
    let first : x.0.now ≡ table_of text = (split_once_first 124 text (Some x) h (lit< tt)).1 in
    let barred : has_bar text ≡ true = ap has_bar parts.0 ∙ has_bar-append x.0.now x.1.now in
    record { whole = parts.0; lacks = subst (Lacks bar) (sym first) (named text barred).2 }

-- its table is what stands before
table_cut : (text name rest : Text) → IsCutAtBar text name rest → table_of text ≡ name
table_cut text name rest c = ap table_of c.whole ∙ table_of-append name rest c.lacks

-- ---- the group of a key

-- a key without a third segment is of the group with the empty name
group_of-short : (key : Text) → has_bar (behind_bar key) ≡ false → group_of key ≡ []
group_of-short key h = ap (λ b. cond b (table_of (behind_bar key)) []) h

-- so is a text without `|`
pub group_of-none : (key : Text) → position_or_len (λ b. b == bar) key ≡ length key → group_of key ≡ []
group_of-none key h = group_of-short key (ap has_bar (behind_bar-none key h))

-- and one that has no other behind its first
pub group_of-two : (key table behind : Text) → IsCutAtBar key table behind → has_bar behind ≡ false → group_of key ≡ []
group_of-two key table behind c none = group_of-short key (ap has_bar (ap behind_bar c.whole ∙ behind_bar-append table behind c.lacks) ∙ none)

-- the group of a key that has three segments
group_of-append : (table group rest : Text) → Lacks bar table → Lacks bar group → group_of (table ++ bar ∷ (group ++ bar ∷ rest)) ≡ group
group_of-append table group rest h g =
    ap (λ t. cond (has_bar t) (table_of t) []) (behind_bar-append table (group ++ bar ∷ rest) h)
    ∙ ap (λ b. cond b (table_of (group ++ bar ∷ rest)) []) (has_bar-append group rest) ∙ table_of-append group rest g

-- of one that is cut so
pub group_of-three : (key table behind group rest : Text) → IsCutAtBar key table behind → IsCutAtBar behind group rest → group_of key ≡ group
group_of-three key table behind group rest c d = ap group_of (c.whole ∙ ap (λ t. table ++ bar ∷ t) d.whole) ∙ group_of-append table group rest c.lacks d.lacks

-- ---- ranges inside one group

-- what stands behind a group in a last bound ends it: it begins with `|`, or is `}`
abbrev pub EndsGroup : Text → Type 0
EndsGroup behind = (starts_with nat_eq behind (bar ∷ []) || same behind (brace ∷ [])) ≡ true

-- it begins with `|`
pub ends_with_bar : (behind : Text) (begins : Bool) → Decides begins (get_or behind 0 0 ≡ bar) → begins ≡ true → EndsGroup behind
ends_with_bar behind begins h is = ends_by [] behind behind begins refl h ∙ ap (λ b. b || same behind (brace ∷ [])) is

-- it is `}`
pub ends_with_brace : (behind : Text) → same behind (brace ∷ []) ≡ true → EndsGroup behind
ends_with_brace behind is = or_right (starts_with nat_eq behind (bar ∷ [])) (same behind (brace ∷ [])) is

-- a last bound that has `|` is of the range's table
high_table : (r : Range) → is_range r.low r.high ≡ true → has_bar r.high ≡ true → table_of r.high ≡ table_of r.low
high_table r ok barred =
    let bounds = bounds_of r.low r.high ok in
    let low = named r.low (bar_of_names r.low bounds.names) in
    ⊎_elim
    (λ (begins : starts_with nat_eq r.high (table_of r.low ++ bar ∷ []) ≡ true). table_from_beginning r.high (table_of r.low) low.2 begins)
    (λ (is : same r.high (table_of r.low ++ brace ∷ []) ≡ true).
    let none : has_bar r.high ≡ false =
    ap has_bar (equal_by_same r.high (table_of r.low ++ brace ∷ []) is) ∙ list_any-append (λ b. b == bar) (table_of r.low) (brace ∷ [])
    ∙ or_from (has_bar (table_of r.low)) (has_bar (brace ∷ [])) low.2 refl in
    absurd (false≢true (sym none ∙ barred)))
    (or_cases _ _ bounds.ends)

-- a last bound that ends a group is not above the group's keys
high_within : (front behind : Text) → EndsGroup behind → is_up_to (front ++ behind) (front ++ brace ∷ []) ≡ true
high_within front behind h =
    ⊎_elim
    (λ (begins : starts_with nat_eq behind (bar ∷ []) ≡ true).
    let w = rest_of behind (bar ∷ []) begins in
    let whole : front ++ behind ≡ (front ++ bar ∷ []) ++ w.0 = ap (λ t. front ++ t) w.1 ∙ sym (append_assoc front (bar ∷ []) w.0) in
    let inside = within_prefix front (front ++ behind) ∙ subst (λ t. starts_with nat_eq t (front ++ bar ∷ []) ≡ true) (sym whole) (begins_with (front ++ bar ∷ []) w.0) in
    up_to_from_below (front ++ behind) (front ++ brace ∷ []) (and_parts _ _ inside).1)
    (λ (is : same behind (brace ∷ []) ≡ true).
    subst (λ t. is_up_to (front ++ t) (front ++ brace ∷ []) ≡ true) (sym (equal_by_same behind (brace ∷ []) is)) (up_to_itself (front ++ brace ∷ [])))
    (or_cases _ _ h)

-- all keys of a range whose bounds begin with one group are of it
group-within : (r : Range) (table group more behind : Text) → Lacks bar table → Lacks bar group → r.low ≡ table ++ bar ∷ (group ++ bar ∷ more) → r.high ≡ table ++ bar ∷ (group ++ behind) →
    EndsGroup behind → (key : Text) → within r key ≡ true → group_of key ≡ group
group-within r table group more behind h g low high ends key inside =
    let front : Text = table ++ bar ∷ group in
    let bounds = and_parts (is_up_to r.low key) (is_below key r.high) inside in
    let from : r.low ≡ (front ++ bar ∷ []) ++ more = low ∙ sym (append_assoc table (bar ∷ group) (bar ∷ more)) ∙ sym (append_assoc front (bar ∷ []) more) in
    let first = within_prefix front r.low ∙ subst (λ t. starts_with nat_eq t (front ++ bar ∷ []) ≡ true) (sym from) (begins_with (front ++ bar ∷ []) more) in
    let last : is_up_to r.high (front ++ brace ∷ []) ≡ true =
    subst (λ t. is_up_to t (front ++ brace ∷ []) ≡ true) (sym (high ∙ sym (append_assoc table (bar ∷ group) behind))) (high_within front behind ends) in
    let up : is_up_to (front ++ bar ∷ []) key ≡ true = up_to_trans (front ++ bar ∷ []) r.low key (and_parts _ _ first).0 bounds.0 in
    let down : is_below key (front ++ brace ∷ []) ≡ true = below_up_to key r.high (front ++ brace ∷ []) bounds.1 last in
    let begins : starts_with nat_eq key (front ++ bar ∷ []) ≡ true = sym (within_prefix front key) ∙ and_from _ _ up down in
    let w = rest_of key (front ++ bar ∷ []) begins in
    let whole : key ≡ table ++ bar ∷ (group ++ bar ∷ w.0) = w.1 ∙ append_assoc front (bar ∷ []) w.0 ∙ append_assoc table (bar ∷ group) (bar ∷ w.0) in
    ap group_of whole ∙ group_of-append table group w.0 h g

-- and so where the bounds are cut so
pub group-within_cuts : (r : Range) (first low group more last high behind : Text) → is_range r.low r.high ≡ true → IsCutAtBar r.low first low → IsCutAtBar low group more → IsCutAtBar r.high last high →
    high ≡ group ++ behind → EndsGroup behind → (key : Text) → within r key ≡ true → group_of key ≡ group
group-within_cuts r first low group more last high behind ok a b d follows ends =
    let barred : has_bar r.high ≡ true = ap has_bar d.whole ∙ has_bar-append last high in
    let same_table : last ≡ first = sym (table_cut r.high last high d) ∙ high_table r ok barred ∙ table_cut r.low first low a in
    group-within r first group more behind a.lacks b.lacks (a.whole ∙ ap (λ t. first ++ bar ∷ t) b.whole)
    (d.whole ∙ ap (λ t. t ++ bar ∷ high) same_table ∙ ap (λ t. first ++ bar ∷ t) follows) ends
