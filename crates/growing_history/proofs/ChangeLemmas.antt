-- Which keys are changed between two positions, and that they ascend.
use Rattle.std.proofs.Common.{◌≡◌, ◌⊎◌, ℕ, zero, suc, ◌+◌, ◌-◌, ◌<◌, ◌≤◌, Bool, true, false, cond, List, [], ◌∷◌, map, filter, flat_map, fold, take, drop, slice_get, Contains, Option, Some, None, IsSomeAnd, refl, sym, ap, ◌∙◌, subst, inl, inr, ⊎_elim, arith, Ordering, Less, Equal, Greater, is_lt}
use Rattle.std.specs.List.{AllByRecursion}
use Rattle.std.specs.List.Sorted.{IsStrictlySortedBy}
use Rattle.std.specs.FinMap.Entries.{is_sorted, below_all}
use Rattle.std.proofs.lemmas.Bool.{false≢true, and_parts}
use Rattle.std.proofs.lemmas.Option.{none-some, same_Some, slice_get_past}
use Rattle.semantics.specs.Texts.{Text, same, text_cmp, Table, value_at, with_pair, Range, within}
use Rattle.semantics.specs.Histories.{Write, put, remove, declare, drop_join, Entry, History}
use Rattle.semantics.proofs.PieceLemmas.{equal_by_same, same_by_equal}
use Rattle.semantics.proofs.MemberLemmas.{Has, has_from_contains, contains_from_has, has_filter, has_filtered, has_map, has_mapped, has_flat_map, has_flat_mapped}
use Rattle.semantics.proofs.TableLemmas.{IsAscending, value_at-with_pair, ascending-with_pair, has_from_value, value_from_has}
use Rattle.growing_history.specs.Changes.{written, entries_between, in_order, changed_keys}
use Rattle.growing_history.specs.ChangeLaws.{Writes, IsWrittenBetween, ChangedKeysAscend, ChangedKeysAreWritten}

-- ---- texts in order

-- a test that passes says which order it is
less_from : (o : Ordering) → is_lt o ≡ true → o ≡ Less
less_from Less h = refl
less_from Equal h = absurd (false≢true h)
less_from Greater h = absurd (false≢true h)

-- a text below all keys of a table is below each of them
pub below_keys : (t : Text) (table : Table) → below_all text_cmp t table ≡ true → AllByRecursion (λ u. text_cmp t u ≡ Less) (map (λ pair. pair.0) table)
below_keys t [] h = tt
below_keys t (pair ∷ pairs) h =
    let parts = and_parts (is_lt (text_cmp t pair.0)) (below_all text_cmp t pairs) h in
    (less_from (text_cmp t pair.0) parts.0, below_keys t pairs parts.1)

-- the keys of a table whose keys ascend are sorted
pub sorted_keys : (table : Table) → IsAscending table → IsStrictlySortedBy text_cmp (map (λ pair. pair.0) table)
unfolding IsStrictlySortedBy
sorted_keys [] h = tt
sorted_keys (pair ∷ pairs) h =
    let parts = and_parts (below_all text_cmp pair.0 pairs) (is_sorted text_cmp pairs) h in
    (below_keys pair.0 pairs parts.0, sorted_keys pairs parts.1)

-- a table with each text put into it as a key
abbrev with_texts : Table → List Text → Table
with_texts table ts = fold (λ t x. with_pair x [] t) table ts

-- texts put into a table leave its keys ascending
ascending-with_texts : (table : Table) (ts : List Text) → IsAscending table → IsAscending (with_texts table ts)
ascending-with_texts table [] h = h
ascending-with_texts table (t ∷ ts) h = ascending-with_texts (with_pair t [] table) ts (ascending-with_pair t [] table h)

-- the table has the key, or the key is one of the texts
abbrev IsKnown : Table → List Text → Text → Type 0
IsKnown table ts key = Has ts key ⊎ ((value : Text) × (value_at key table ≡ Some value))

-- a key of a table with one text more is that text, or a key of the table
known_by : (table : Table) (t : Text) (ts : List Text) (key value : Text) (b : Bool) → same key t ≡ b → cond b (Some []) (value_at key table) ≡ Some value → IsKnown table (t ∷ ts) key
known_by table t ts key value true s h = inl (inl (sym (equal_by_same key t s)))
known_by table t ts key value false s h = inr (value, h)

-- a key of a table with texts is one of them, or a key of the table
known_from : (table : Table) (ts : List Text) (key value : Text) → value_at key (with_texts table ts) ≡ Some value → IsKnown table ts key
known_from table [] key value h = inr (value, h)
known_from table (t ∷ ts) key value h = ⊎_elim
    (λ (later : Has ts key). inl (inr later))
    (λ (old : (v : Text) × (value_at key (with_pair t [] table) ≡ Some v)). known_by table t ts key old.0 (same key t) refl (sym (value_at-with_pair key t [] table) ∙ old.1))
    (known_from (with_pair t [] table) ts key value h)

-- a text that is put, or a key of the table, is a key of the table with it
put_by : (table : Table) (key value : Text) (b : Bool) → value_at key table ≡ Some value → (v : Text) × (cond b (Some []) (value_at key table) ≡ Some v)
put_by table key value true h = ([], refl)
put_by table key value false h = (value, h)

-- one of the texts, or a key of the table, is a key of the table with the texts
known_to : (table : Table) (ts : List Text) (key : Text) → IsKnown table ts key → (value : Text) × (value_at key (with_texts table ts) ≡ Some value)
known_to table [] key (inl h) = absurd h
known_to table [] key (inr old) = old
known_to table (t ∷ ts) key (inl (inl e)) =
    known_to (with_pair t [] table) ts key (inr ([], value_at-with_pair key t [] table ∙ ap (λ b. cond b (Some []) (value_at key table)) (same_by_equal key t (sym e))))
known_to table (t ∷ ts) key (inl (inr h)) = known_to (with_pair t [] table) ts key (inl h)
known_to table (t ∷ ts) key (inr old) =
    let w = put_by table key old.0 (same key t) old.1 in
    known_to (with_pair t [] table) ts key (inr (w.0, value_at-with_pair key t [] table ∙ w.1))

-- what stands in the ordered list is one of the texts
pub has_from_in_order : (ts : List Text) (key : Text) → Has (in_order ts) key → Has ts key
has_from_in_order ts key h =
    let w = has_map (λ pair. pair.0) (with_texts [] ts) key h in
    let at = value_from_has w.0.0 w.0.1 (with_texts [] ts) (ascending-with_texts [] ts refl) w.1 in
    ⊎_elim (λ (g : Has ts key). g) (λ old. absurd (none-some old.0 old.1)) (known_from [] ts key w.0.1 (ap (λ k. value_at k (with_texts [] ts)) (sym w.2) ∙ at))

-- each of the texts stands in the ordered list
pub has_in_order : (ts : List Text) (key : Text) → Has ts key → Has (in_order ts) key
has_in_order ts key h =
    let w = known_to [] ts key (inl h) in
    has_mapped (λ pair. pair.0) (with_texts [] ts) (key, w.0) (has_from_value key w.0 (with_texts [] ts) w.1)

-- ---- the entries between two positions

-- an element of a beginning stands at a place of the list
place_from_take : {A : Type 0} (n : ℕ) (xs : List A) (x : A) → Has (take n xs) x → (k : ℕ) × (k < n) × (slice_get xs k ≡ Some x)
place_from_take zero xs x h = absurd h
place_from_take (suc n) [] x h = absurd h
place_from_take (suc n) (y ∷ ys) x (inl e) = (0, omega arith, ap Some e)
place_from_take (suc n) (y ∷ ys) x (inr h) = let w = place_from_take n ys x h in (suc w.0, omega (arith, w.1), w.2)

-- the element at a place stands in each beginning that reaches past it
take_from_place : {A : Type 0} (n : ℕ) (xs : List A) (x : A) (k : ℕ) → k < n → slice_get xs k ≡ Some x → Has (take n xs) x
take_from_place zero xs x k h e = absurd (omega arith)
take_from_place (suc n) [] x k h e = absurd (none-some x e)
take_from_place (suc n) (y ∷ ys) x zero h e = inl (same_Some y x e)
take_from_place (suc n) (y ∷ ys) x (suc k) h e = inr (take_from_place n ys x k (omega arith) e)

-- the places of what is left of a list
slice_get-drop : {A : Type 0} (n : ℕ) (xs : List A) (k m : ℕ) → m ≡ n + k → slice_get (drop n xs) k ≡ slice_get xs m
slice_get-drop zero xs k m e = ap (slice_get xs) (omega arith)
slice_get-drop (suc n) [] k m e = slice_get_past [] k (omega arith) ∙ sym (slice_get_past [] m (omega arith))
slice_get-drop (suc n) (x ∷ xs) k zero e = absurd (omega arith)
slice_get-drop (suc n) (x ∷ xs) k (suc m) e = slice_get-drop n xs k m (omega arith)

-- an entry between two positions stands at a place from the first on and below the second
place_from_between : (q p : ℕ) (h : History) (e : Entry) → Has (entries_between q p h) e → (x : ℕ) × (q ≤ x) × (x < p) × (slice_get h x ≡ Some e)
place_from_between q p h e g =
    let w = place_from_take (p - q) (drop q h) e g in
    (q + w.0, omega arith, omega (arith, w.1), sym (slice_get-drop q h w.0 (q + w.0) refl) ∙ w.2)

-- an entry at such a place is between the positions
between_from_place : (q p : ℕ) (h : History) (e : Entry) (x : ℕ) → q ≤ x → x < p → slice_get h x ≡ Some e → Has (entries_between q p h) e
between_from_place q p h e x up below at = take_from_place (p - q) (drop q h) e (x - q) (omega arith) (slice_get-drop q h (x - q) x (omega arith) ∙ at)

-- ---- the changed keys

-- the changed keys ascend, each once
pub changed_keys_ascend : ChangedKeysAscend
unfolding changed_keys
changed_keys_ascend q p r h =
    let ts = filter (within r) (flat_map (λ e. written e.write) (entries_between q p h)) in
    sorted_keys (with_texts [] ts) (ascending-with_texts [] ts refl)

-- the one key that a write has is the one that it writes
writes_from_has : (write : Write) (key : Text) → Has (written write) key → Writes write key
writes_from_has (put k v) key (inl e) = e
writes_from_has (put k v) key (inr h) = absurd h
writes_from_has (remove k) key (inl e) = e
writes_from_has (remove k) key (inr h) = absurd h
writes_from_has (declare j) key h = h
writes_from_has (drop_join at) key h = h

has_from_writes : (write : Write) (key : Text) → Writes write key → Has (written write) key
has_from_writes (put k v) key e = inl e
has_from_writes (remove k) key e = inl e
has_from_writes (declare j) key h = h
has_from_writes (drop_join at) key h = h

-- what is said of the entry at a place, from the entry
some_at : (o : Option Entry) (e : Entry) (key : Text) → o ≡ Some e → Writes e.write key → IsSomeAnd o (λ f. Writes f.write key)
some_at None e key at w = absurd (none-some e at)
some_at (Some f) e key at w = subst (λ g. Writes g.write key) (sym (same_Some f e at)) w

-- and the entry, from what is said of it
entry_at : (o : Option Entry) (key : Text) → IsSomeAnd o (λ f. Writes f.write key) → (e : Entry) × (o ≡ Some e) × Writes e.write key
entry_at None key h = absurd h
entry_at (Some e) key h = (e, refl, h)

-- a changed key is one of the range that an entry writes
written_from_changed : (q p : ℕ) (r : Range) (h : History) (key : Text) → Contains (changed_keys q p r h) key → (within r key ≡ true) × IsWrittenBetween q p h key
unfolding changed_keys
written_from_changed q p r h key c =
    let keys = flat_map (λ e. written e.write) (entries_between q p h) in
    let kept = has_filter (within r) keys key (has_from_in_order (filter (within r) keys) key (has_from_contains (in_order (filter (within r) keys)) key c)) in
    let w = has_flat_map (λ e. written e.write) (entries_between q p h) key kept.1 in
    let place = place_from_between q p h w.0 w.1 in
    (kept.0, (place.0, place.1, place.2, some_at (slice_get h place.0) w.0 key place.3 (writes_from_has w.0.write key w.2)))

-- a key of the range that an entry writes is a changed one
changed_from_written : (q p : ℕ) (r : Range) (h : History) (key : Text) → within r key ≡ true → IsWrittenBetween q p h key → Contains (changed_keys q p r h) key
unfolding changed_keys
changed_from_written q p r h key inside w =
    let keys = flat_map (λ e. written e.write) (entries_between q p h) in
    let e = entry_at (slice_get h w.0) key w.3 in
    let listed : Has keys key = has_flat_mapped (λ e. written e.write) (entries_between q p h) e.0 key (between_from_place q p h e.0 w.0 w.1 w.2 e.1) (has_from_writes e.0.write key e.2) in
    contains_from_has (in_order (filter (within r) keys)) key (has_in_order (filter (within r) keys) key (has_filtered (within r) keys key inside listed))

-- the changed keys are those of the range that an entry writes
pub changed_keys_are_written : ChangedKeysAreWritten
changed_keys_are_written q p r h key = (written_from_changed q p r h key, λ w. changed_from_written q p r h key w.0 w.1)
