-- A map of pairs by the places of their keys, as a table.
use Rattle.std.proofs.Common.{◌≡◌, Option, None, Some, Bool, true, false, cond, not, ◌&&◌, [], ◌∷◌, map, filter, refl, sym, ap, ◌∙◌, Ordering, Less, Equal, Greater, is_lt, is_eq}
use Rattle.std.specs.List.{AllByRecursion}
use Rattle.std.specs.Map.{lookup, remove_entry}
use Rattle.std.specs.Option.{option_map}
use Rattle.std.specs.BTreeMap.{insert_entry, is_at}
use Rattle.std.specs.Ordering.{is_le, match_ordering}
use Rattle.std.specs.FinMap.Entries.{by_order, is_sorted}
use Rattle.std.proofs.lemmas.Bool.{false≢true}
use Rattle.std.proofs.Math.Bool.{not-not}
use Rattle.semantics.specs.Texts.{Text, is_key, same, text_cmp, Table, Range, value_at, with_pair, without_key, pairs_where, pairs_within, within}
use Rattle.semantics.proofs.PieceLemmas.{equal_by_same, same_by_equal}
use Rattle.semantics.proofs.TableLemmas.{IsAscending, same_is_tie, equal_by_tie, ascending-with_pair, ascending-pairs_where, same_tables}
use Rattle.semantics.proofs.MergedLemmas.{ascending-tail, ascending-without_key, value_at-without_key, value_at-first_again}
use Rattle.key_ranges.proofs.OrderLemmas.{up_to-not_below}
use Rattle.join_rows.specs.Placed.{PlacedPairs, pairs_of, IsPlaced, ArePlaced}

-- each pair stands at the place of its key
abbrev pub Own : PlacedPairs → Type 0
Own placed = AllByRecursion (λ e. IsPlaced e) placed

-- ---- a pair more

put_by : (o : Ordering) (key value : Text) (e : Text × (Text × Text)) (es rest : PlacedPairs) → text_cmp key e.0 ≡ o → e.0 ≡ e.1.0 → pairs_of rest ≡ with_pair key value (pairs_of es) →
    pairs_of (match_ordering o ((key, (key, value)) ∷ e ∷ es) ((e.0, (key, value)) ∷ es) (e ∷ rest))
    ≡ by_order o ((key, value) ∷ e.1 ∷ pairs_of es) ((e.1.0, value) ∷ pairs_of es) (e.1 ∷ with_pair key value (pairs_of es))
put_by Less key value e es rest c own h = refl
put_by Equal key value e es rest c own h = ap (λ k. (k, value) ∷ pairs_of es) (equal_by_tie key e.0 c ∙ own)
put_by Greater key value e es rest c own h = ap (λ t. e.1 ∷ t) h

-- a map's insertion at the place of the key is the table's
put_is_with_pair : (key value : Text) (es : PlacedPairs) → Own es → pairs_of (insert_entry text_cmp es key (key, value)) ≡ with_pair key value (pairs_of es)
put_is_with_pair key value [] own = refl
put_is_with_pair key value (e ∷ es) own =
    put_by (text_cmp key e.0) key value e es (insert_entry text_cmp es key (key, value)) refl own.0.own (put_is_with_pair key value es own.1)
    ∙ ap (λ k. by_order (text_cmp key k) ((key, value) ∷ e.1 ∷ pairs_of es) ((e.1.0, value) ∷ pairs_of es) (e.1 ∷ with_pair key value (pairs_of es))) own.0.own

own_by : (o : Ordering) (key value : Text) (e : Text × (Text × Text)) (es rest : PlacedPairs) → is_key key ≡ true → text_cmp key e.0 ≡ o → Own (e ∷ es) → Own rest →
    Own (match_ordering o ((key, (key, value)) ∷ e ∷ es) ((e.0, (key, value)) ∷ es) (e ∷ rest))
own_by Less key value e es rest k c own h = (record { own = refl; key = k }, own)
own_by Equal key value e es rest k c own h = (record { own = sym (equal_by_tie key e.0 c); key = own.0.key }, own.1)
own_by Greater key value e es rest k c own h = (own.0, h)

own-put : (key value : Text) (es : PlacedPairs) → is_key key ≡ true → Own es → Own (insert_entry text_cmp es key (key, value))
own-put key value [] k own = (record { own = refl; key = k }, tt)
own-put key value (e ∷ es) k own = own_by (text_cmp key e.0) key value e es (insert_entry text_cmp es key (key, value)) k refl own (own-put key value es k own.1)

-- with a pair put at the place of its key the map has the table's pair more, and each pair stands at its place
pub put_placed : (key value : Text) (es : PlacedPairs) → is_key key ≡ true → ArePlaced es → ArePlaced (insert_entry text_cmp es key (key, value))
put_placed key value es k placed = record {
  own = own-put key value es k placed.own;
  ascending = ap (is_sorted text_cmp) (put_is_with_pair key value es placed.own) ∙ ascending-with_pair key value (pairs_of es) placed.ascending;
}

-- ---- a pair less

alike : (t u : Text) (b c : Bool) → same t u ≡ b → same u t ≡ c → b ≡ c
alike t u true true h g = refl
alike t u true false h g = absurd (false≢true (sym g ∙ same_by_equal u t (sym (equal_by_same t u h))))
alike t u false true h g = absurd (false≢true (sym h ∙ same_by_equal t u (sym (equal_by_same u t g))))
alike t u false false h g = refl

-- a text is the same as another where that is the same as it
pub same_either_way : (t u : Text) → same t u ≡ same u t
same_either_way t u = alike t u (same t u) (same u t) refl refl

-- a place ties with the key that is the same
tie_is_same : (key other : Text) → is_eq (text_cmp key other) ≡ same other key
tie_is_same key other = sym (same_is_tie key other) ∙ same_either_way key other

-- a table that has nothing at a key is the same without it
absent_by : (q key : Text) (table : Table) (b : Bool) → same q key ≡ b → value_at key table ≡ None → cond (not b) (value_at q table) None ≡ value_at q table
absent_by q key table true s none = sym (ap (λ k. value_at k table) (equal_by_same q key s) ∙ none)
absent_by q key table false s none = refl

without_absent : (key : Text) (table : Table) → IsAscending table → value_at key table ≡ None → without_key key table ≡ table
without_absent key table h none = same_tables (without_key key table) table (ascending-without_key key table h) h
    (λ q. value_at-without_key q key table ∙ absent_by q key table (same q key) refl none)

take_by : (b : Bool) (key : Text) (e : Text × (Text × Text)) (es rest : PlacedPairs) → same e.1.0 key ≡ b → IsAscending (e.1 ∷ pairs_of es) → pairs_of rest ≡ without_key key (pairs_of es) →
    pairs_of (cond b es (e ∷ rest)) ≡ cond (not b) (e.1 ∷ without_key key (pairs_of es)) (without_key key (pairs_of es))
take_by true key e es rest s ascending h =
    let again : same key e.1.0 ≡ true = same_by_equal key e.1.0 (sym (equal_by_same e.1.0 key s)) in
    sym (without_absent key (pairs_of es) (ascending-tail e.1 (pairs_of es) ascending) (value_at-first_again key e.1 (pairs_of es) ascending again))
take_by false key e es rest s ascending h = ap (λ t. e.1 ∷ t) h

-- a map's removal at the place of the key is the table's
take_is_without_key : (key : Text) (es : PlacedPairs) → Own es → IsAscending (pairs_of es) → pairs_of (remove_entry (is_at (text_cmp key)) es) ≡ without_key key (pairs_of es)
take_is_without_key key [] own ascending = refl
take_is_without_key key (e ∷ es) own ascending =
    ap (λ b. pairs_of (cond b es (e ∷ remove_entry (is_at (text_cmp key)) es))) (ap (λ k. is_eq (text_cmp key k)) own.0.own ∙ tie_is_same key e.1.0)
    ∙ take_by (same e.1.0 key) key e es (remove_entry (is_at (text_cmp key)) es) refl ascending (take_is_without_key key es own.1 (ascending-tail e.1 (pairs_of es) ascending))

own_less : (b : Bool) (e : Text × (Text × Text)) (es rest : PlacedPairs) → Own (e ∷ es) → Own rest → Own (cond b es (e ∷ rest))
own_less true e es rest own h = own.1
own_less false e es rest own h = (own.0, h)

own-take : (test : Text → Bool) (es : PlacedPairs) → Own es → Own (remove_entry test es)
own-take test [] own = tt
own-take test (e ∷ es) own = own_less (test e.0) e es (remove_entry test es) own (own-take test es own.1)

-- without the entry at the place of a key the map is the table without the key
pub take_without : (key : Text) (es : PlacedPairs) → ArePlaced es → pairs_of (remove_entry (is_at (text_cmp key)) es) ≡ without_key key (pairs_of es)
take_without key es placed = take_is_without_key key es placed.own placed.ascending

-- and each pair that is left stands at its place
pub take_placed : (key : Text) (es : PlacedPairs) → ArePlaced es → ArePlaced (remove_entry (is_at (text_cmp key)) es)
take_placed key es placed = record {
  own = own-take (is_at (text_cmp key)) es placed.own;
  ascending = ap (is_sorted text_cmp) (take_without key es placed) ∙ ascending-without_key key (pairs_of es) placed.ascending;
}

-- with a pair put at the place of its key the map is the table with the pair
pub put_with_pair : (key value : Text) (es : PlacedPairs) → ArePlaced es → pairs_of (insert_entry text_cmp es key (key, value)) ≡ with_pair key value (pairs_of es)
put_with_pair key value es placed = put_is_with_pair key value es placed.own

-- ---- some of the pairs

kept_by : (b : Bool) (e : Text × (Text × Text)) (es : PlacedPairs) (table : Table) → pairs_of es ≡ table → pairs_of (cond b (e ∷ es) es) ≡ cond b (e.1 ∷ table) table
kept_by true e es table h = ap (λ t. e.1 ∷ t) h
kept_by false e es table h = h

-- the entries that pass a test are the pairs that pass it
pub kept_pairs : (test : Text × (Text × Text) → Bool) (passes : Text → Bool) (es : PlacedPairs) → AllByRecursion (λ e. test e ≡ passes e.1.0) es → pairs_of (filter test es) ≡ pairs_where passes (pairs_of es)
kept_pairs test passes [] h = refl
kept_pairs test passes (e ∷ es) h =
    ap (λ b. pairs_of (cond b (e ∷ filter test es) (filter test es))) h.0
    ∙ kept_by (passes e.1.0) e (filter test es) (pairs_where passes (pairs_of es)) (kept_pairs test passes es h.1)

own_kept : (b : Bool) (e : Text × (Text × Text)) (es : PlacedPairs) → IsPlaced e → Own es → Own (cond b (e ∷ es) es)
own_kept true e es here own = (here, own)
own_kept false e es here own = own

own-filter : (test : Text × (Text × Text) → Bool) (es : PlacedPairs) → Own es → Own (filter test es)
own-filter test [] own = tt
own-filter test (e ∷ es) own = own_kept (test e) e (filter test es) own.0 (own-filter test es own.1)

own_tests : (passes : Text → Bool) (es : PlacedPairs) → AllByRecursion (λ e. passes e.1.0 ≡ passes e.1.0) es
own_tests passes [] = tt
own_tests passes (e ∷ es) = (refl, own_tests passes es)

-- the entries of which the pairs' keys pass
pub filter_where : (passes : Text → Bool) (es : PlacedPairs) → pairs_of (filter (λ e. passes e.1.0) es) ≡ pairs_where passes (pairs_of es)
filter_where passes es = kept_pairs (λ e. passes e.1.0) passes es (own_tests passes es)

-- the entries that are kept stand at their places
pub filter_placed : (passes : Text → Bool) (es : PlacedPairs) → ArePlaced es → ArePlaced (filter (λ e. passes e.1.0) es)
filter_placed passes es placed = record {
  own = own-filter (λ e. passes e.1.0) es placed.own;
  ascending = ap (is_sorted text_cmp) (filter_where passes es) ∙ ascending-pairs_where passes (pairs_of es) placed.ascending;
}

-- ---- a range

-- a place is not at or past the last bound exactly where it is below it
below_last : (high place : Text) → not (is_le (text_cmp high place)) ≡ is_lt (text_cmp place high)
below_last high place = ap not (up_to-not_below high place) ∙ not-not (is_lt (text_cmp place high))

range_tests : (range : Range) (es : PlacedPairs) → Own es → AllByRecursion (λ e. (is_le (text_cmp range.low e.0) && not (is_le (text_cmp range.high e.0))) ≡ within range e.1.0) es
range_tests range [] own = tt
range_tests range (e ∷ es) own =
    (ap (λ b. is_le (text_cmp range.low e.0) && b) (below_last range.high e.0) ∙ ap (λ k. within range k) own.0.own, range_tests range es own.1)

-- the entries from the first bound on and below the last are the pairs of the range
pub range_within : (range : Range) (es : PlacedPairs) → ArePlaced es →
    pairs_of (filter (λ e. is_le (text_cmp range.low e.0) && not (is_le (text_cmp range.high e.0))) es) ≡ pairs_within range (pairs_of es)
range_within range es placed = kept_pairs (λ e. is_le (text_cmp range.low e.0) && not (is_le (text_cmp range.high e.0))) (within range) es (range_tests range es placed.own)

-- ---- a look-up

found_by : (b : Bool) (e : Text × (Text × Text)) (o : Option (Text × Text)) → option_map (λ pair. pair.1) (cond b (Some e.1) o) ≡ cond b (Some e.1.1) (option_map (λ pair. pair.1) o)
found_by true e o = refl
found_by false e o = refl

-- what a look-up finds at the place of a key is the pair with the table's value at the key
pub lookup_is_value : (q : Text) (es : PlacedPairs) → Own es → option_map (λ pair. pair.1) (lookup (is_at (text_cmp q)) es) ≡ value_at q (pairs_of es)
lookup_is_value q [] own = refl
lookup_is_value q (e ∷ es) own =
    found_by (is_eq (text_cmp q e.0)) e (lookup (is_at (text_cmp q)) es)
    ∙ ap (cond (is_eq (text_cmp q e.0)) (Some e.1.1)) (lookup_is_value q es own.1)
    ∙ ap (λ k. cond (is_eq (text_cmp q k)) (Some e.1.1) (value_at q (pairs_of es))) own.0.own
