-- Which ids entries mark, one part of them after another.
use Rattle.std.proofs.Common.{◌≡◌, ◌==◌, ℕ, ◌+◌, ◌-◌, ◌≤◌, List, [], ◌∷◌, ◌++◌, length, take, drop, filter, flat_map, Bool, true, false, cond, Result, OnOk, OnErr, refl, sym, ap, ◌∙◌, subst, arith}
use Rattle.std.proofs.lemmas.List.{append-nil, drop-drop, length-drop, take-append-drop}
use Rattle.std.proofs.lemmas.List.Concat.{flat_map-append}
use Rattle.std.proofs.lemmas.List.Elements.{filter-append}
use Rattle.std.proofs.lemmas.List.Sums.{fold-append}
use Rattle.std.proofs.lemmas.Result.{on_ok_weaker, on_err_weaker}
use Rattle.semantics.specs.Texts.{Text, table_of}
use Rattle.semantics.specs.Histories.{Write, put, remove, declare, drop_join, Entry, History}
use Rattle.growing_history.specs.Changes.{entries_between, written}
use Rattle.base_versions.specs.Kept.{Kept, HasEnteredInPart, shard_of}
use Rattle.base_versions.specs.Own.{AreOwn, is_of, own_from}
use Rattle.base_versions.specs.declared.placed.Placed.{Placed}
use Rattle.base_versions.proofs.OwnLemmas.{placed}
use Rattle.updater_index.specs.Registered.{Held, Index, IsMarkedInPart, stabbed, with_mark}
use Rattle.base_shards.proofs.ListLemmas.{take_then, take_of_take}
use Rattle.base_shards.proofs.ShardLemmas.{TakesNext, TakesOwn, next_entries, next_length, next_upto, all_reach, some_enter}
use Rattle.base_shards.specs.Marks.{written_in, keys_of, stabbed_by, with_ids_marked, marked_by, marked_by_keys, OnlyMarks, MarksAtLeast}

-- ---- ids that are marked one after another

-- no ids more
pub no_ids_more : (index : Index) → with_ids_marked [] index ≡ index
no_ids_more index = refl

-- some ids, and then others
pub ids_then : (ids more : List ℕ) (index : Index) → with_ids_marked (ids ++ more) index ≡ with_ids_marked more (with_ids_marked ids index)
ids_then ids more index = ap (λ (marked : List ℕ). let i : Index = record { held = index.held; marked = marked } in i) (fold-append with_mark index.marked ids more)

-- nothing more is marked
pub marks_none : (index : Index) → OnlyMarks index index
marks_none index = record { ids = []; is = refl }

-- ids were marked, and then others
pub marks_then : (ids : List ℕ) (old mid new : Index) → mid ≡ with_ids_marked ids old → OnlyMarks mid new → OnlyMarks old new
marks_then ids old mid new is marks = record {
  ids = ids ++ marks.ids;
  is = marks.is ∙ ap (with_ids_marked marks.ids) is ∙ sym (ids_then ids marks.ids old);
}

-- of a key some first ids were marked
pub marks_in_part : (key : Text) (old new : Index) → IsMarkedInPart old key new → OnlyMarks old new
marks_in_part key old new part = record {
  ids = take part.count (stabbed key old.held);
  is = (λ i. let index : Index = record { held = part.held i; marked = part.marked i } in index);
}

-- ---- entries one after another

-- the keys of some entries, and of others
pub written_in-append : (number : ℕ) (es more : History) → written_in number (es ++ more) ≡ written_in number es ++ written_in number more
written_in-append number es more =
    ap (filter (λ key. shard_of 16 (table_of key) == number)) (flat_map-append (λ (e : Entry). written e.write) es more)
    ∙ filter-append (λ key. shard_of 16 (table_of key) == number) (flat_map (λ (e : Entry). written e.write) es) (flat_map (λ (e : Entry). written e.write) more)

-- the ids that they stab
pub stabbed_by-append : (number : ℕ) (es more : History) (held : Held) → stabbed_by number (es ++ more) held ≡ stabbed_by number es held ++ stabbed_by number more held
stabbed_by-append number es more held =
    ap (flat_map (λ key. stabbed key held)) (written_in-append number es more) ∙ flat_map-append (λ key. stabbed key held) (written_in number es) (written_in number more)

-- what keys mark, and then others
pub marked_by_keys-append : (keys more : List Text) (index : Index) → marked_by_keys (keys ++ more) index ≡ marked_by_keys more (marked_by_keys keys index)
marked_by_keys-append keys more index =
    ap (λ ids. with_ids_marked ids index) (flat_map-append (λ key. stabbed key index.held) keys more)
    ∙ ids_then (flat_map (λ key. stabbed key index.held) keys) (flat_map (λ key. stabbed key index.held) more) index

-- what they mark
pub marked_by-append : (number : ℕ) (es more : History) (index : Index) → marked_by number (es ++ more) index ≡ marked_by number more (marked_by number es index)
marked_by-append number es more index =
    ap (λ keys. marked_by_keys keys index) (written_in-append number es more) ∙ marked_by_keys-append (written_in number es) (written_in number more) index

-- ---- one entry

-- an entry that puts or removes a key marks what the key does
pub marked_by_one : (e : Entry) (key : Text) (index : Index) → written e.write ≡ key ∷ [] → marked_by_keys (written e.write) index ≡ with_ids_marked (stabbed key index.held) index
marked_by_one e key index is = ap (λ keys. marked_by_keys keys index) is ∙ ap (λ ids. with_ids_marked ids index) (append-nil (stabbed key index.held))

-- one that puts and removes none marks nothing
pub marked_by_none : (e : Entry) (index : Index) → written e.write ≡ [] → marked_by_keys (written e.write) index ≡ index
marked_by_none e index is = ap (λ keys. marked_by_keys keys index) is

-- ---- the entries of a part

-- the keys of some entries, and of one more
pub keys_of-push : (own : List Placed) (p : Placed) → keys_of (own ++ p ∷ []) ≡ keys_of own ++ written p.entry.write
keys_of-push own p = flat_map-append (λ (q : Placed). written q.entry.write) own (p ∷ []) ∙ ap (λ keys. keys_of own ++ keys) (append-nil (written p.entry.write))

by_test : (b : Bool) (p : Placed) (key : Text) → written p.entry.write ≡ key ∷ [] → keys_of (cond b (p ∷ []) []) ≡ cond b (key ∷ []) []
by_test true p key is = ap (λ keys. keys ++ []) is
by_test false p key is = refl

by_write : (number : ℕ) (p : Placed) (write : Write) → written p.entry.write ≡ written write → keys_of (cond (is_of 16 number write) (p ∷ []) []) ≡ filter (λ key. shard_of 16 (table_of key) == number) (written write ++ [])
by_write number p (put k v) is = by_test (shard_of 16 (table_of k) == number) p k is
by_write number p (remove k) is = by_test (shard_of 16 (table_of k) == number) p k is
by_write number p (declare j) is = refl
by_write number p (drop_join at) is = refl

-- the entries of a part put and remove the keys that all entries do in its tables
pub keys_own : (number n : ℕ) (es : History) → keys_of (own_from 16 number n es) ≡ written_in number es
keys_own number n [] = refl
keys_own number n (e ∷ es) =
    let here : List Placed = cond (is_of 16 number e.write) (placed n e ∷ []) [] in
    flat_map-append (λ (q : Placed). written q.entry.write) here (own_from 16 number (n + 1) es)
    ∙ (λ i. by_write number (placed n e) e.write refl i ++ keys_own number (n + 1) es i)
    ∙ sym (written_in-append number (e ∷ []) es)

-- ---- at least

-- what is marked by entries, and more
pub at_least_then : (number : ℕ) (es : History) (old mid new : Index) → mid ≡ marked_by number es old → OnlyMarks mid new → MarksAtLeast number es old new
at_least_then number es old mid new is marks = record {
  more = marks.ids;
  is = marks.is ∙ ap (with_ids_marked marks.ids) is ∙ sym (ids_then (stabbed_by number es old.held) marks.ids old);
}

-- what is marked by entries is marked by the first of them, and more
pub at_least_first : (number count : ℕ) (es : History) (old new : Index) → new ≡ marked_by number es old → MarksAtLeast number (take count es) old new
at_least_first number count es old new is = record {
  more = stabbed_by number (drop count es) old.held;
  is = is ∙ ap (λ ids. with_ids_marked ids old) (ap (λ xs. stabbed_by number xs old.held) (sym (take-append-drop count es)) ∙ stabbed_by-append number (take count es) (drop count es) old.held);
}

-- entries, and then at least others
pub at_least_after : (number : ℕ) (es more : History) (old mid new : Index) → mid ≡ marked_by number es old → MarksAtLeast number more mid new → MarksAtLeast number (es ++ more) old new
at_least_after number es more old mid new is marks =
    let held : mid.held ≡ old.held = ap (λ (i : Index). i.held) is in
    record {
      more = marks.more;
      is = marks.is
          ∙ ids_then (stabbed_by number more mid.held) marks.more mid
          ∙ ap (with_ids_marked marks.more) ((λ i. with_ids_marked (stabbed_by number more (held i)) (is i)) ∙ sym (marked_by-append number es more old))
          ∙ sym (ids_then (stabbed_by number (es ++ more) old.held) marks.more old);
    }

-- ---- entries between two positions

-- between a position and itself there is none
pub none_between : (n : ℕ) (h : History) → entries_between n n h ≡ []
none_between n h = ap (λ k. take k (drop n h)) (let e : n - n ≡ 0 = omega arith in e)

-- those up to a position, and those from there on
pub between_then : (q m p : ℕ) (h : History) → q ≤ m → m ≤ p → entries_between q m h ++ entries_between m p h ≡ entries_between q p h
between_then q m p h first next =
    ap (λ es. entries_between q m h ++ take (p - m) es) (ap (λ k. drop k h) (let e : m ≡ q + (m - q) = omega (arith, first) in e) ∙ sym (drop-drop (m - q) q h))
    ∙ take_then (m - q) (p - m) (drop q h)
    ∙ ap (λ k. take k (drop q h)) (let e : m - q + (p - m) ≡ p - q = omega (arith, first, next) in e)

-- ---- the next entries that a part takes

-- the entries that were taken are those between its positions
next_between_positions : (view es : History) (old new : Kept) (p from to : ℕ) → TakesNext view old.position p from to es → new.position ≡ old.position + length es → es ≡ entries_between old.position new.position view
next_between_positions view es old new p from to next position =
    let long = next_length view old.position p from to es next in
    next_entries view old.position p from to es next ∙ ap (λ k. take k (drop old.position view)) (let e : to - old.position ≡ new.position - old.position = omega (arith, long, position) in e)

-- the own ones mark what all of them do
pub marked_own : (old : Kept) (view : History) (p from to : ℕ) (own : List Placed) (es : History) (before after : Index) → old.shards ≡ 16 → TakesOwn old view p from to own es →
    after ≡ marked_by_keys (keys_of own) before → after ≡ marked_by old.shard es before
marked_own old view p from to own es before after shards takes marked =
    marked ∙ ap (λ keys. marked_by_keys keys before) (ap keys_of (takes.are.are ∙ ap (λ n. own_from n old.shard (old.position + 1) es) shards) ∙ keys_own old.shard (old.position + 1) es)

-- where all were taken, the ids that they mark are marked
pub marked_next : {T E : Type 0} (r : Result T E) (view : History) (old new : Kept) (p from to : ℕ) (own : List Placed) (es : History) (before after : Index) → old.shards ≡ 16 → TakesOwn old view p from to own es →
    after ≡ marked_by_keys (keys_of own) before → OnOk r (new.position ≡ to) → OnOk r (after ≡ marked_by old.shard (entries_between old.position new.position view) before)
marked_next r view old new p from to own es before after shards takes marked position =
    on_ok_weaker r (λ is. marked_own old view p from to own es before after shards takes marked ∙ ap (λ (xs : History). marked_by old.shard xs before) (next_between_positions view es old new p from to takes.next is))
    (all_reach r old new to own es takes.are position)

-- where some were, at least those that these mark are
pub at_least_next : {T E : Type 0} (r : Result T E) (view : History) (old new : Kept) (p from to : ℕ) (own : List Placed) (es : History) (before after : Index) → old.shards ≡ 16 → TakesOwn old view p from to own es →
    after ≡ marked_by_keys (keys_of own) before → OnErr r ((all : History) → AreOwn old to own all → HasEnteredInPart old all new) → OnErr r (MarksAtLeast old.shard (entries_between old.position new.position view) before after)
at_least_next r view old new p from to own es before after shards takes marked part =
    let next = takes.next in
    on_err_weaker r (λ (some : HasEnteredInPart old es new).
    let long = next_length view old.position p from to es next in
    let all = next_entries view old.position p from to es next in
    let fits : to - old.position ≤ length (drop old.position view) = omega (arith, length-drop old.position view, next_upto view old.position p from to es next, next.inside) in
    let first : take some.count es ≡ entries_between old.position new.position view =
    ap (take some.count) all
    ∙ take_of_take some.count (to - old.position) (drop old.position view) (omega (arith, long, some.some)) fits
    ∙ ap (λ k. take k (drop old.position view)) (let e : some.count ≡ new.position - old.position = omega (arith, some.position) in e) in
    subst (λ (xs : History). MarksAtLeast old.shard xs before after) first (at_least_first old.shard some.count es before after (marked_own old view p from to own es before after shards takes marked))) (some_enter r old new to own es takes.are part)

-- where none was, and ids were marked all the same
pub at_least_none : (view : History) (number position : ℕ) (before after : Index) → OnlyMarks before after → MarksAtLeast number (entries_between position position view) before after
at_least_none view number position before after marks =
    subst (λ (xs : History). MarksAtLeast number xs before after) (sym (none_between position view)) (at_least_then number [] before before after refl marks)

-- ---- batch after batch

-- before the first nothing is marked
pub marked_at_first : (number position : ℕ) (view : History) (index : Index) → index ≡ marked_by number (entries_between position position view) index
marked_at_first number position view index = ap (λ (es : History). marked_by number es index) (sym (none_between position view))

-- the entries between two positions of what a pass has seen, which may be said of in other words
pub marked_after : (shard number q m p : ℕ) (view seen : History) (first mid last : Index) → shard ≡ number → view ≡ seen → q ≤ m → m ≤ p →
    mid ≡ marked_by number (entries_between q m seen) first → last ≡ marked_by shard (entries_between m p view) mid → last ≡ marked_by number (entries_between q p seen) first
marked_after shard number q m p view seen first mid last same sight one two before next =
    next ∙ (λ i. marked_by (same i) (entries_between m p (sight i)) (before i))
    ∙ sym (marked_by-append number (entries_between q m seen) (entries_between m p seen) first)
    ∙ ap (λ (es : History). marked_by number es first) (between_then q m p seen one two)

pub at_least_in_all : (shard number q m p : ℕ) (view seen : History) (first mid last : Index) → shard ≡ number → view ≡ seen → q ≤ m → m ≤ p →
    mid ≡ marked_by number (entries_between q m seen) first → MarksAtLeast shard (entries_between m p view) mid last → MarksAtLeast number (entries_between q p seen) first last
at_least_in_all shard number q m p view seen first mid last same sight one two before next =
    let here : MarksAtLeast number (entries_between m p seen) mid last =
    subst (λ (h : History). MarksAtLeast number (entries_between m p h) mid last) sight (subst (λ (n : ℕ). MarksAtLeast n (entries_between m p view) mid last) same next) in
    subst (λ (es : History). MarksAtLeast number es first last) (between_then q m p seen one two)
    (at_least_after number (entries_between q m seen) (entries_between m p seen) first mid last before here)

-- the same in the words of another part, place, view and index that are equal
pub at_least_as : (shard number from start p : ℕ) (view seen : History) (first before last : Index) → shard ≡ number → from ≡ start → view ≡ seen → first ≡ before →
    MarksAtLeast shard (entries_between from p view) first last → MarksAtLeast number (entries_between start p seen) before last
at_least_as shard number from start p view seen first before last same place sight index marks =
    subst (λ (i : Index). MarksAtLeast number (entries_between start p seen) i last) index
    (subst (λ (h : History). MarksAtLeast number (entries_between start p h) first last) sight
    (subst (λ (n : ℕ). MarksAtLeast number (entries_between n p view) first last) place
    (subst (λ (n : ℕ). MarksAtLeast n (entries_between from p view) first last) same marks)))
