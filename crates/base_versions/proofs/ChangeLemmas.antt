-- The changes of a table, and the keys that entries put or remove.
use Rattle.std.proofs.Common.{◌≡◌, ℕ, suc, ◌+◌, ◌-◌, ◌<◌, ◌≤◌, List, [], ◌∷◌, ◌++◌, length, take, drop, map, filter, flat_map, nat_le, nat_lt, Bool, true, false, cond, not, ◌&&◌, refl, sym, ap, ◌∙◌, ⊎_elim, arith}
use Rattle.std.proofs.Math.Seq.{take-nil, drop-nil}
use Rattle.std.proofs.lemmas.Bool.{cases_lt, false_from_ne_true, false≢true}
use Rattle.std.proofs.lemmas.Bool.Decides.{nat_tests}
use Rattle.std.proofs.lemmas.List.{map-append}
use Rattle.std.proofs.lemmas.List.Elements.{filter-append}
use Rattle.semantics.specs.Texts.{Text, same, table_of, is_range, Range, within}
use Rattle.semantics.specs.Histories.{Write, put, remove, declare, drop_join, Entry, History}
use Rattle.semantics.proofs.PieceLemmas.{same_by_equal}
use Rattle.key_ranges.proofs.RangeLemmas.{within_table}
use Rattle.growing_history.specs.Changes.{written, in_order, changed_keys}
use Rattle.base_versions.specs.declared.changes.Change.{Change}
use Rattle.base_versions.specs.Changes.{change_by, changes_of, Ascend, is_between, keys_within, changed_in}
use Rattle.base_versions.proofs.PositionLemmas.{ascend_from_less, IsCut, taken-cut, dropped-cut, MakesInOrder, ascend_onto, ascend-made_from, made_from-push, ascend-kept_since, between-kept_since}
use Rattle.base_versions.specs.Positions.{IsKeptSince, lies_between, made_from}

abbrev of_change : Change → ℕ
of_change c = c.position

-- the changes that entries which begin at a position make in a table
abbrev pub changes_from : ℕ → Text → History → List Change
changes_from position table h = made_from (λ n. change_by n table) position h

-- ---- the positions ascend, and one entry more

-- a change has the position of its write
makes_in_order : (table : Text) → MakesInOrder of_change (λ position. change_by position table)
makes_in_order table position (put k v) cs a = ascend_onto of_change (same (table_of k) table) (record { position = position; key = k }) cs position refl a
makes_in_order table position (remove k) cs a = ascend_onto of_change (same (table_of k) table) (record { position = position; key = k }) cs position refl a
makes_in_order table position (declare j) cs a = ascend_from_less of_change (position + 1) position cs (omega arith) a
makes_in_order table position (drop_join at) cs a = ascend_from_less of_change (position + 1) position cs (omega arith) a

-- the changes of a table ascend
pub ascend-changes_of : (table : Text) (h : History) → Ascend 0 (changes_of table h)
unfolding changes_of
ascend-changes_of table h =
    ascend_from_less of_change 1 0 (changes_from 1 table h) (omega arith) (ascend-made_from of_change (λ position. change_by position table) (makes_in_order table) 1 h)

-- the changes of a table after one entry more
pub changes_of-push : (table : Text) (h : History) (e : Entry) → changes_of table (h ++ e ∷ []) ≡ changes_of table h ++ change_by (length h + 1) table e.write
unfolding changes_of
changes_of-push table h e = made_from-push (λ position. change_by position table) 1 h e ∙ ap (λ n. changes_from 1 table h ++ change_by n table e.write) (omega arith)

-- ---- the keys that entries put or remove

-- the keys of a range that writes put or remove
abbrev keys_of_entries : Range → History → List Text
keys_of_entries r es = filter (within r) (flat_map (λ e. written e.write) es)

-- those of one change, or of none
one_key : (r : Range) (position : ℕ) (k : Text) (b : Bool) → is_range r.low r.high ≡ true → same (table_of k) (table_of r.low) ≡ b →
    keys_within r (cond b (record { position = position; key = k } ∷ []) []) ≡ filter (within r) (k ∷ [])
one_key r position k true h e = refl
one_key r position k false h e =
    sym (ap (λ x. cond x (k ∷ []) []) (false_from_ne_true (within r k) (λ g. false≢true (sym e ∙ same_by_equal (table_of k) (table_of r.low) (within_table r k h g)))))

-- the changes of one write in a range's table are at the keys of the range that it puts or removes
keys_of_write : (r : Range) (position : ℕ) (write : Write) → is_range r.low r.high ≡ true →
    keys_within r (change_by position (table_of r.low) write) ≡ filter (within r) (written write)
keys_of_write r position (put k v) h = one_key r position k (same (table_of k) (table_of r.low)) h refl
keys_of_write r position (remove k) h = one_key r position k (same (table_of k) (table_of r.low)) h refl
keys_of_write r position (declare j) h = refl
keys_of_write r position (drop_join at) h = refl

same_either : {A : Type 0} (b : Bool) (xs : List A) → xs ≡ cond b xs xs
same_either true xs = refl
same_either false xs = refl

-- a change between two positions, or none
between_one : (q p : ℕ) (b : Bool) (c : Change) → filter (is_between q p) (cond b (c ∷ []) []) ≡ cond (is_between q p c) (cond b (c ∷ []) []) []
between_one q p true c = refl
between_one q p false c = same_either (is_between q p c) []

keys_under : (r : Range) (b : Bool) (cs : List Change) (ks : List Text) → keys_within r cs ≡ ks → keys_within r (cond b cs []) ≡ cond b ks []
keys_under r true cs ks e = e
keys_under r false cs ks e = refl

-- of one write: the keys of the range that it puts or removes, where it lies between
pub keys_of_change : (r : Range) (q p position : ℕ) (write : Write) → is_range r.low r.high ≡ true →
    keys_within r (filter (is_between q p) (change_by position (table_of r.low) write)) ≡ cond (lies_between q p position) (filter (within r) (written write)) []
keys_of_change r q p position (put k v) h =
    ap (keys_within r) (between_one q p (same (table_of k) (table_of r.low)) (record { position = position; key = k }))
    ∙ keys_under r (lies_between q p position) (change_by position (table_of r.low) (put k v)) (filter (within r) (k ∷ [])) (keys_of_write r position (put k v) h)
keys_of_change r q p position (remove k) h =
    ap (keys_within r) (between_one q p (same (table_of k) (table_of r.low)) (record { position = position; key = k }))
    ∙ keys_under r (lies_between q p position) (change_by position (table_of r.low) (remove k)) (filter (within r) (k ∷ [])) (keys_of_write r position (remove k) h)
keys_of_change r q p position (declare j) h = same_either (lies_between q p position) []
keys_of_change r q p position (drop_join at) h = same_either (lies_between q p position) []

-- the keys of the range that the entries between put or remove, entry by entry
keys_from : Range → ℕ → ℕ → ℕ → History → List Text
keys_from r q p position [] = []
keys_from r q p position (e ∷ es) = cond (lies_between q p position) (filter (within r) (written e.write)) [] ++ keys_from r q p (position + 1) es

-- they are the keys of the changes
keys_of_changes : (r : Range) (q p position : ℕ) (h : History) → is_range r.low r.high ≡ true →
    keys_within r (filter (is_between q p) (changes_from position (table_of r.low) h)) ≡ keys_from r q p position h
unfolding keys_from
keys_of_changes r q p position [] h = refl
keys_of_changes r q p position (e ∷ es) h =
    let first = change_by position (table_of r.low) e.write in
    let rest = changes_from (position + 1) (table_of r.low) es in
    ap (keys_within r) (filter-append (is_between q p) first rest)
    ∙ ap (filter (within r)) (map-append (λ (c : Change). c.key) (filter (is_between q p) first) (filter (is_between q p) rest))
    ∙ filter-append (within r) (map (λ c. c.key) (filter (is_between q p) first)) (map (λ c. c.key) (filter (is_between q p) rest))
    ∙ ap (λ ks. ks ++ keys_within r (filter (is_between q p) rest)) (keys_of_change r q p position e.write h)
    ∙ ap (λ ks. cond (lies_between q p position) (filter (within r) (written e.write)) [] ++ ks) (keys_of_changes r q p (position + 1) es h)

-- the entries between, of those that begin at a position
abbrev those_between : ℕ → ℕ → ℕ → History → History
those_between q p position h = take ((p + 1 - position) - (q + 1 - position)) (drop (q + 1 - position) h)

none_between : (q p position : ℕ) → those_between q p position [] ≡ []
none_between q p position = ap (take ((p + 1 - position) - (q + 1 - position))) (drop-nil (q + 1 - position)) ∙ take-nil ((p + 1 - position) - (q + 1 - position))

-- an entry up to the first position is passed over
passed : (q p position : ℕ) (e : Entry) (es : History) → q ≤ p → position ≤ q → those_between q p position (e ∷ es) ≡ those_between q p (position + 1) es
passed q p position e es h g =
    let n : q + 1 - position ≡ suc (q + 1 - (position + 1)) = omega arith in
    let m : (p + 1 - position) - (q + 1 - position) ≡ (p + 1 - (position + 1)) - (q + 1 - (position + 1)) = omega arith in
    ap (λ k. take k (drop (q + 1 - position) (e ∷ es))) m
    ∙ ap (λ k. take ((p + 1 - (position + 1)) - (q + 1 - (position + 1))) (drop k (e ∷ es))) n

-- an entry between is the first
begun : (q p position : ℕ) (e : Entry) (es : History) → q < position → position ≤ p → those_between q p position (e ∷ es) ≡ e ∷ those_between q p (position + 1) es
begun q p position e es h g =
    let n : q + 1 - position ≡ 0 = omega arith in
    let m : (p + 1 - position) - (q + 1 - position) ≡ suc ((p + 1 - (position + 1)) - (q + 1 - (position + 1))) = omega arith in
    let k : 0 ≡ q + 1 - (position + 1) = omega arith in
    ap (λ x. take ((p + 1 - position) - (q + 1 - position)) (drop x (e ∷ es))) n
    ∙ ap (λ x. take x (e ∷ es)) m
    ∙ ap (λ x. e ∷ take ((p + 1 - (position + 1)) - (q + 1 - (position + 1))) (drop x es)) k

-- after the second position there is none
ended : (q p position : ℕ) (h : History) → q ≤ p → p < position → those_between q p position h ≡ []
ended q p position h g l =
    let m : (p + 1 - position) - (q + 1 - position) ≡ 0 = omega arith in
    ap (λ x. take x (drop (q + 1 - position) h)) m

-- entry by entry or cut out first, they are the same
keys_from_between : (r : Range) (q p position : ℕ) (h : History) → q ≤ p → keys_from r q p position h ≡ keys_of_entries r (those_between q p position h)
unfolding keys_from
keys_from_between r q p position [] g = ap (keys_of_entries r) (sym (none_between q p position))
keys_from_between r q p position (e ∷ es) g =
    let ih = keys_from_between r q p (position + 1) es g in
    let first = filter (within r) (written e.write) in
    ⊎_elim
    (λ (after : q < position).
    ⊎_elim
    (λ (late : p < position).
    let test : lies_between q p position ≡ false = grind (arith, nat_tests) in
    ap (λ b. cond b first [] ++ keys_from r q p (position + 1) es) test ∙ ih
    ∙ ap (keys_of_entries r) (ended q p (position + 1) es g (omega arith) ∙ sym (ended q p position (e ∷ es) g late)))
    (λ (early : position ≤ p).
    let test : lies_between q p position ≡ true = grind (arith, nat_tests) in
    ap (λ b. cond b first [] ++ keys_from r q p (position + 1) es) test
    ∙ ap (λ ks. first ++ ks) ih
    ∙ sym (filter-append (within r) (written e.write) (flat_map (λ x. written x.write) (those_between q p (position + 1) es)))
    ∙ ap (keys_of_entries r) (sym (begun q p position e es after early)))
    (cases_lt p position))
    (λ (before : position ≤ q).
    let test : lies_between q p position ≡ false = grind (arith, nat_tests) in
    ap (λ b. cond b first [] ++ keys_from r q p (position + 1) es) test ∙ ih
    ∙ ap (keys_of_entries r) (sym (passed q p position e es g before)))
    (cases_lt q position)

-- the keys of a range that the changes of its table speak of are those that the entries put or remove
pub changed_in-changes_of : (h : History) (r : Range) (q p : ℕ) → q ≤ p → is_range r.low r.high ≡ true → changed_in q p r (changes_of (table_of r.low) h) ≡ changed_keys q p r h
unfolding changes_of changed_keys
changed_in-changes_of h r q p g ok =
    let n : (p + 1 - 1) - (q + 1 - 1) ≡ p - q = omega arith in
    let m : q + 1 - 1 ≡ q = omega arith in
    ap in_order (keys_of_changes r q p 1 h ok ∙ keys_from_between r q p 1 h g
    ∙ ap (λ x. keys_of_entries r (take x (drop (q + 1 - 1) h))) n ∙ ap (λ x. keys_of_entries r (take (p - q) (drop x h))) m)

-- the kept changes of a table ascend
pub ascend-kept_changes : (start : ℕ) (kept : List Change) (table : Text) (h : History) → IsKeptSince of_change start kept (changes_of table h) → Ascend 0 kept
ascend-kept_changes start kept table h s = ascend-kept_since of_change start 0 kept (changes_of table h) s (ascend-changes_of table h)

-- from the start on the keys that the kept changes speak of are those that the entries put or remove
pub changed_in-kept_changes : (start : ℕ) (kept : List Change) (h : History) (r : Range) (q p : ℕ) → IsKeptSince of_change start kept (changes_of (table_of r.low) h) → start ≤ q → q ≤ p → is_range r.low r.high ≡ true →
    changed_in q p r kept ≡ changed_keys q p r h
changed_in-kept_changes start kept h r q p s l g ok =
    ap (λ cs. in_order (keys_within r cs)) (between-kept_since of_change start q p kept (changes_of (table_of r.low) h) l s) ∙ changed_in-changes_of h r q p g ok

-- ---- the changes between two positions, searched by halves

twice_by : {A : Type 0} (a b : Bool) (x : A) (xs : List A) (second : A → Bool) (ys : List A) → second x ≡ b → filter second xs ≡ ys → filter second (cond a (x ∷ xs) xs) ≡ cond (a && b) (x ∷ ys) ys
twice_by true true x xs second ys e h = ap (λ t. cond t (x ∷ filter second xs) (filter second xs)) e ∙ ap (λ t. x ∷ t) h
twice_by true false x xs second ys e h = ap (λ t. cond t (x ∷ filter second xs) (filter second xs)) e ∙ h
twice_by false b x xs second ys e h = h

filter_twice : {A : Type 0} (first second : A → Bool) (xs : List A) → filter second (filter first xs) ≡ filter (λ x. first x && second x) xs
filter_twice first second [] = refl
filter_twice first second (x ∷ xs) = twice_by (first x) (second x) x (filter first xs) second (filter (λ y. first y && second y) xs) refl (filter_twice first second xs)

filter_congr : {A : Type 0} (test other : A → Bool) (xs : List A) → ((x : A) → test x ≡ other x) → filter test xs ≡ filter other xs
filter_congr test other [] h = refl
filter_congr test other (x ∷ xs) h = ap (λ b. cond b (x ∷ filter test xs) (filter test xs)) (h x) ∙ ap (λ ys. cond (other x) (x ∷ ys) ys) (filter_congr test other xs h)

not_le : (a b : ℕ) → not (nat_le a b) ≡ nat_lt b a
not_le a b = ⊎_elim (λ (h : b < a). grind (arith, nat_tests)) (λ (h : a ≤ b). grind (arith, nat_tests)) (cases_lt b a)

later_is : (q p : ℕ) (c : Change) → (not (nat_le c.position q) && nat_le c.position p) ≡ is_between q p c
later_is q p c = ap (λ b. b && nat_le c.position p) (not_le c.position q)

-- what is cut out by two searches are the changes between
pub between-cuts : (q p : ℕ) (cs : List Change) (n m : ℕ) → IsCut (λ c. nat_le c.position q) cs n → IsCut (λ c. nat_le c.position p) (drop n cs) m → take m (drop n cs) ≡ filter (is_between q p) cs
between-cuts q p cs n m a b =
    taken-cut (λ (c : Change). nat_le c.position p) (drop n cs) m b
    ∙ ap (filter (λ (c : Change). nat_le c.position p)) (dropped-cut (λ (c : Change). nat_le c.position q) cs n a)
    ∙ filter_twice (λ (c : Change). not (nat_le c.position q)) (λ c. nat_le c.position p) cs
    ∙ filter_congr _ (is_between q p) cs (later_is q p)
