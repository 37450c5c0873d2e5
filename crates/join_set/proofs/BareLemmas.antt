-- Which tables are bare, from the joins that stand and the last drop of each table.
use Rattle.std.proofs.Common.{◌≡◌, ℕ, ◌+◌, ◌<◌, ◌≤◌, ◌&&◌, ◌||◌, ◌==◌, List, [], ◌∷◌, ◌++◌, length, map, filter, take, max, Bool, true, false, cond, not, nat_lt, nat_le, if◌then◌else◌, Option, Some, None, refl, sym, ap, ◌∙◌, arith, length-append, length-take, le-leb, leb-true, ltb-true, ltb-false}
use Rattle.std.specs.List.{list_any, list_all}
use Rattle.std.proofs.lemmas.Bool.{or_parts, le-ltb, lt-leb, false_from_ne_true}
use Rattle.std.proofs.lemmas.List.Folds.{list_all-append, list_any-append}
use Rattle.semantics.specs.Texts.{Text, same}
use Rattle.semantics.specs.Patterns.{Pattern, literal, slot}
use Rattle.semantics.specs.Histories.{Write, put, remove, declare, drop_join, Entry, History, DeclaredJoin, joins_of, joins_after, is_of_joins, changed_at, without}
use Rattle.semantics.specs.Stays.{Stay, declared, stays_after, stays_of, is_after, stands_at, joins_at}
use Rattle.semantics.specs.Verdicts.{AllEntered}
use Rattle.semantics.proofs.BaseLemmas.{joins_of-push}
use Rattle.semantics.proofs.PieceLemmas.{equal_by_same}
use Rattle.semantics.proofs.StayLemmas.{IsWithinStay, AreUpTo, stays_up_to, joins_at_stays}
use Rattle.growing_history.specs.Changes.{has_table, bare_between}
use Rattle.join_set.specs.Sets.{LastDrop, Joins, AreJoins, bare_since, drop_at, drop_made, drops_behind, drops_made, has_drop, joins_then, last_drop, position_of, table_of_keys, with_drops, without_drops}
use Rattle.join_set.specs.Timelines.{end_up_to, drop_up_to, changed_up_to, dropped_up_to, kept_stays}
use Rattle.join_set.proofs.TimelineLemmas.{greatest-append, is_hit, joins_now, stays_of-push, changed_at-push, dropped_taken, dropped_declared, dropped_more, dropped_ended}
use Rattle.join_set.proofs.SettleLemmas.{TellDrops, not_above, joins_kept, changed_from_floor, dropped_kept, same_from_floor}

-- a join of another table
abbrev is_other : Text → DeclaredJoin → Bool
is_other table s = not (has_table s.join.output table)

-- ---- by the last drop

le_max : (a b q : ℕ) → nat_le (max a b) q ≡ (nat_le a q && nat_le b q)
le_max a b q = by (nat_le a q) (nat_le b q) refl refl
  where
    by : (x y : Bool) → nat_le a q ≡ x → nat_le b q ≡ y → nat_le (max a b) q ≡ (x && y)
    by true true e f = let l = leb-true a q e in let k = leb-true b q f in le-leb (max a b) q (omega (arith, l, k))
    by true false e f = false_from_ne_true (nat_le (max a b) q) (λ t. let l = leb-true (max a b) q t in let k = le-leb b q (omega (arith, l)) in cc)
    by false y e f = false_from_ne_true (nat_le (max a b) q) (λ t. let l = leb-true (max a b) q t in let k = le-leb a q (omega (arith, l)) in cc)

not_after : (q d : ℕ) → not (nat_lt q d) ≡ nat_le d q
not_after q d = by (nat_lt q d) refl
  where
    by : (b : Bool) → nat_lt q d ≡ b → not b ≡ nat_le d q
    by true e = let l = ltb-true q d e in sym (lt-leb d q l)
    by false e = let l = ltb-false q d e in sym (le-leb d q l)

or_false : (b : Bool) → (b || false) ≡ b
or_false true = refl
or_false false = refl

or_true : (b : Bool) → (b || true) ≡ true
or_true true = refl
or_true false = refl

both_true : (c x : Bool) → (cond c true true && x) ≡ x
both_true true x = refl
both_true false x = refl

-- one stay is bare where its join does not stand at last or is of another table, and where its drop, if it is of the table, is not later
stay_bare : (q m begin : ℕ) (o : Option ℕ) (b : Bool) → IsWithinStay m begin o →
    (not (nat_le begin m && is_after q o) || not b) ≡ (cond (nat_le begin m && is_after m o) (not b) true && nat_le (if b then (end_up_to m o) else 0) q)
stay_bare q m begin None false w = or_true (not (nat_le begin m && true)) ∙ sym (le-leb 0 q (omega arith)) ∙ sym (both_true (nat_le begin m && true) (nat_le 0 q))
stay_bare q m begin None true w = ap (λ c. not (c && true) || false) (le-leb begin m w) ∙ sym (ap (λ c. cond (c && true) false true && nat_le 0 q) (le-leb begin m w))
stay_bare q m begin (Some d) false w = or_true (not (nat_le begin m && nat_lt q d)) ∙ sym (le-leb 0 q (omega arith)) ∙ sym (both_true (nat_le begin m && nat_lt m d) (nat_le 0 q))
stay_bare q m begin (Some d) true w =
    let early = le-leb begin m (omega (arith, w.0, w.1)) in
    let gone = le-ltb m d w.1 in
    let within = le-leb d m w.1 in
    ap (λ c. not (c && nat_lt q d) || false) early ∙ or_false (not (nat_lt q d)) ∙ not_after q d
    ∙ sym (λ i. cond (early i && gone i) false true && nat_le (if within i then d else 0) q)

four : (x y n l : Bool) → ((x && y) && (n && l)) ≡ ((x && n) && (y && l))
four true true n l = refl
four true false true l = refl
four true false false l = refl
four false y n l = refl

others_at : (m : ℕ) (table : Text) (s : Stay) (stays : List Stay) → list_all (is_other table) (joins_at m (s ∷ stays)) ≡ (cond (stands_at m s) (is_other table (declared s)) true && list_all (is_other table) (joins_at m stays))
others_at m table s stays = by (stands_at m s)
  where
    by : (b : Bool) → list_all (is_other table) (map declared (cond b (s ∷ filter (stands_at m) stays) (filter (stands_at m) stays))) ≡ (cond b (is_other table (declared s)) true && list_all (is_other table) (joins_at m stays))
    by true = refl
    by false = refl

-- a table is bare from q on exactly where no join of it stands at last, and the last drop of one lies up to q
bare_is : (q m : ℕ) (table : Text) (stays : List Stay) → AreUpTo m stays →
    bare_between q m table stays ≡ (list_all (is_other table) (joins_at m stays) && nat_le (dropped_up_to m table stays) q)
bare_is q m table [] are = sym (le-leb 0 q (omega arith))
bare_is q m table (s ∷ stays) are =
    let one = stay_bare q m s.position s.until (has_table s.join.output table) are.0 in
    let rest = bare_is q m table stays are.1 in
    (λ i. one i && rest i)
    ∙ four (cond (stands_at m s) (is_other table (declared s)) true) (nat_le (drop_up_to m table s) q) (list_all (is_other table) (joins_at m stays)) (nat_le (dropped_up_to m table stays) q)
    ∙ sym (λ i. others_at m table s stays i && le_max (drop_up_to m table s) (dropped_up_to m table stays) q i)

bare_now : (h : History) (q : ℕ) (table : Text) →
    bare_between q (length h) table (stays_of h) ≡ (list_all (is_other table) (joins_of h) && nat_le (dropped_up_to (length h) table (stays_of h)) q)
bare_now h q table = bare_is q (length h) table (stays_of h) (stays_up_to h) ∙ ap (λ js. list_all (is_other table) js && nat_le (dropped_up_to (length h) table (stays_of h)) q) (joins_now h)

-- ---- the last drops that a set remembers

-- whether a last drop is of another table than others
abbrev is_kept : List LastDrop → LastDrop → Bool
is_kept made d = not (has_drop d.table made)

-- without those of the tables of others, the last of a table is what it was, or there is none
last_without : (table : Text) (made drops : List LastDrop) → last_drop table (filter (is_kept made) drops) ≡ cond (has_drop table made) 0 (last_drop table drops)
last_without table made [] = by (has_drop table made)
  where
    by : (b : Bool) → last_drop table [] ≡ cond b 0 (last_drop table [])
    by true = refl
    by false = refl
last_without table made (d ∷ drops) = by (same d.table table) (has_drop d.table made) refl refl (last_without table made drops)
  where
    other : (c : Bool) → position_of table d ≡ 0 → last_drop table (cond (not c) (d ∷ filter (is_kept made) drops) (filter (is_kept made) drops)) ≡ last_drop table (filter (is_kept made) drops)
    other true none = refl
    other false none = omega (arith, none)

    same_has : (c : Bool) → same d.table table ≡ true → has_drop d.table made ≡ c → has_drop table made ≡ c
    same_has c is has = sym (ap (λ t. has_drop t made) (equal_by_same d.table table is)) ∙ has

    by : (b c : Bool) → same d.table table ≡ b → has_drop d.table made ≡ c → last_drop table (filter (is_kept made) drops) ≡ cond (has_drop table made) 0 (last_drop table drops) →
        last_drop table (cond (not c) (d ∷ filter (is_kept made) drops) (filter (is_kept made) drops)) ≡ cond (has_drop table made) 0 (max (position_of table d) (last_drop table drops))
    by true true is has rest =
        let here = same_has true is has in
        rest ∙ ap (λ b. cond b 0 (last_drop table drops)) here ∙ sym (ap (λ b. cond b 0 (max (position_of table d) (last_drop table drops))) here)
    by true false is has rest =
        let here = same_has false is has in
        ap (max (position_of table d)) (rest ∙ ap (λ b. cond b 0 (last_drop table drops)) here) ∙ sym (ap (λ b. cond b 0 (max (position_of table d) (last_drop table drops))) here)
    by false c is has rest =
        let none : position_of table d ≡ 0 = ap (λ b. cond b d.position 0) is in
        let before : max (position_of table d) (last_drop table drops) ≡ last_drop table drops = omega (arith, none) in
        other c none ∙ rest ∙ ap (cond (has_drop table made) 0) (sym before)

zero_last : (n : ℕ) → max n 0 ≡ n
zero_last n = omega arith

-- the drop of a join is the last of its table
last_one : (table : Text) (at : ℕ) (b : Bool) (output : Pattern) → last_drop table (if b then (drop_at at (table_of_keys output)) else []) ≡ cond (b && has_table output table) at 0
last_one table at false output = refl
last_one table at true [] = refl
last_one table at true (literal l ∷ ss) = zero_last (position_of table (record { table = l; position = at }))
last_one table at true (slot place width ∷ ss) = refl

has_one : (table : Text) (at : ℕ) (b : Bool) (output : Pattern) → has_drop table (if b then (drop_at at (table_of_keys output)) else []) ≡ (b && has_table output table)
has_one table at false output = refl
has_one table at true [] = refl
has_one table at true (literal l ∷ ss) = or_false (same l table)
has_one table at true (slot place width ∷ ss) = refl

-- the drops of the joins that were declared at a position are the last of their tables
last_made : (table : Text) (position at : ℕ) (joins : List DeclaredJoin) → last_drop table (drops_made position at joins) ≡ cond (list_any (is_hit position table) joins) at 0
last_made table position at [] = refl
last_made table position at (s ∷ joins) =
    greatest-append (position_of table) (drop_made position at s) (drops_made position at joins)
    ∙ (λ i. max (last_one table at (s.position == position) s.join.output i) (last_made table position at joins i))
    ∙ either (is_hit position table s) (list_any (is_hit position table) joins)
  where
    either : (b c : Bool) → max (cond b at 0) (cond c at 0) ≡ cond (b || c) at 0
    either true true = omega arith
    either true false = omega arith
    either false c = omega arith

has_made : (table : Text) (position at : ℕ) (joins : List DeclaredJoin) → has_drop table (drops_made position at joins) ≡ list_any (is_hit position table) joins
has_made table position at [] = refl
has_made table position at (s ∷ joins) =
    list_any-append (λ d. same d.table table) (drop_made position at s) (drops_made position at joins)
    ∙ (λ i. has_one table at (s.position == position) s.join.output i || has_made table position at joins i)

-- where they come in the place of those of their tables, they are the last of these, and the last of each other table is what it was
last_of : (table : Text) (position at : ℕ) (joins : List DeclaredJoin) (drops : List LastDrop) →
    last_drop table (with_drops (drops_made position at joins) drops) ≡ cond (list_any (is_hit position table) joins) at (last_drop table drops)
last_of table position at joins drops =
    let made = drops_made position at joins in
    greatest-append (position_of table) (filter (is_kept made) drops) made
    ∙ (λ i. max (last_without table made drops i) (last_made table position at joins i))
    ∙ ap (λ b. max (cond b 0 (last_drop table drops)) (cond (list_any (is_hit position table) joins) at 0)) (has_made table position at joins)
    ∙ by (list_any (is_hit position table) joins)
  where
    by : (b : Bool) → max (cond b 0 (last_drop table drops)) (cond b at 0) ≡ cond b at (last_drop table drops)
    by true = omega arith
    by false = omega arith

-- ---- a set through one write more

-- a join of the table that was declared at a position is the only reason why others are taken out of it
without_others : (table : Text) (at : ℕ) (joins : List DeclaredJoin) → list_any (is_hit at table) joins ≡ false → list_all (is_other table) (without at joins) ≡ list_all (is_other table) joins
without_others table at [] none = refl
without_others table at (s ∷ joins) none =
    let parts = or_parts ((s.position == at) && has_table s.join.output table) (list_any (is_hit at table) joins) none in
    by (s.position == at) parts.0 (without_others table at joins parts.1)
  where
    by : (b : Bool) → (b && has_table s.join.output table) ≡ false → list_all (is_other table) (without at joins) ≡ list_all (is_other table) joins →
        list_all (is_other table) (cond (not b) (s ∷ without at joins) (without at joins)) ≡ (not (has_table s.join.output table) && list_all (is_other table) joins)
    by true e rest = rest ∙ sym (ap (λ b. not b && list_all (is_other table) joins) e)
    by false e rest = ap (λ b. not (has_table s.join.output table) && b) rest

swapped : (n x l : Bool) → ((n && x) && l) ≡ (x && (n && l))
swapped true x l = refl
swapped false true l = refl
swapped false false l = refl

-- what the set says of a table after a write, and what the stays say
bare_then : (floor : ℕ) (joins : Joins) (h : History) (w : Write) (q : ℕ) (table : Text) → floor ≤ q → AreJoins floor joins h →
    bare_since q table (joins_then (length h + 1) w joins)
    ≡ (list_all (is_other table) (joins_after (length h + 1) w (joins_of h)) && nat_le (dropped_up_to (length h + 1) table (stays_after (length h + 1) w (stays_of h))) q)
bare_then floor joins h (put k v) q table up are = are.bare q table up ∙ bare_now h q table ∙ ap (λ n. list_all (is_other table) (joins_of h) && nat_le n q) (sym (dropped_more (length h) table (stays_of h) (stays_up_to h)))
bare_then floor joins h (remove k) q table up are = are.bare q table up ∙ bare_now h q table ∙ ap (λ n. list_all (is_other table) (joins_of h) && nat_le n q) (sym (dropped_more (length h) table (stays_of h) (stays_up_to h)))
bare_then floor joins h (declare j) q table up are =
    let last : DeclaredJoin = record { position = length h + 1; join = j } in
    let one = list_all (is_other table) (last ∷ []) in
    ap (λ b. b && nat_le (last_drop table joins.drops) q) (list_all-append (is_other table) joins.standing (last ∷ []))
    ∙ swapped (list_all (is_other table) joins.standing) one (nat_le (last_drop table joins.drops) q)
    ∙ ap (λ b. one && b) (are.bare q table up ∙ bare_now h q table)
    ∙ sym (swapped (list_all (is_other table) (joins_of h)) one (nat_le (dropped_up_to (length h) table (stays_of h)) q))
    ∙ sym (λ i. list_all-append (is_other table) (joins_of h) (last ∷ []) i && nat_le (dropped_declared (length h) table j (stays_of h) (stays_up_to h) i) q)
bare_then floor joins h (drop_join at) q table up are =
    ap (λ n. list_all (is_other table) (without at joins.standing) && nat_le n q) (last_of table at (length h + 1) joins.standing joins.drops)
    ∙ by (list_any (is_hit at table) joins.standing) refl
    ∙ sym (λ i. list_all (is_other table) (without at (sym are.standing i)) && nat_le (dropped i) q)
  where
    dropped : dropped_up_to (length h + 1) table (stays_after (length h + 1) (drop_join at) (stays_of h)) ≡ cond (list_any (is_hit at table) joins.standing) (length h + 1) (dropped_up_to (length h) table (stays_of h))
    dropped = dropped_ended (length h) at table (stays_of h) (stays_up_to h) ∙ ap (λ js. cond (list_any (is_hit at table) js) (length h + 1) (dropped_up_to (length h) table (stays_of h))) (joins_now h ∙ sym are.standing)

    by : (b : Bool) → list_any (is_hit at table) joins.standing ≡ b →
        (list_all (is_other table) (without at joins.standing) && nat_le (cond b (length h + 1) (last_drop table joins.drops)) q)
        ≡ (list_all (is_other table) (without at joins.standing) && nat_le (cond b (length h + 1) (dropped_up_to (length h) table (stays_of h))) q)
    by true is = refl
    by false is =
        let left = without_others table at joins.standing is in
        ap (λ b. b && nat_le (last_drop table joins.drops) q) left
        ∙ are.bare q table up ∙ bare_now h q table
        ∙ sym (λ i. (left ∙ ap (list_all (is_other table)) are.standing) i && nat_le (dropped_up_to (length h) table (stays_of h)) q)

standing_then : (floor : ℕ) (joins : Joins) (h : History) (at : ℕ) (w : Write) → AreJoins floor joins h → (joins_then at w joins).standing ≡ joins_after at w (joins_of h)
standing_then floor joins h at (put k v) are = are.standing
standing_then floor joins h at (remove k) are = are.standing
standing_then floor joins h at (declare j) are = ap (λ js. js ++ record { position = at; join = j } ∷ []) are.standing
standing_then floor joins h at (drop_join position) are = ap (without position) are.standing

changed_then : (floor : ℕ) (joins : Joins) (h : History) (at : ℕ) (w : Write) → AreJoins floor joins h → (joins_then at w joins).changed ≡ (if is_of_joins w then at else changed_at h)
changed_then floor joins h at (put k v) are = are.changed
changed_then floor joins h at (remove k) are = are.changed
changed_then floor joins h at (declare j) are = refl
changed_then floor joins h at (drop_join position) are = refl

-- the set of the history with one entry more
pub AreJoins-push : (floor : ℕ) (joins : Joins) (h : History) (e : Entry) → AreJoins floor joins h → AreJoins floor (joins_then (length h + 1) e.write joins) (h ++ e ∷ [])
AreJoins-push floor joins h e are =
    let long : length (h ++ e ∷ []) ≡ length h + 1 = length-append h (e ∷ []) in
    record {
      standing = standing_then floor joins h (length h + 1) e.write are ∙ sym (joins_of-push h e);
      changed = changed_then floor joins h (length h + 1) e.write are ∙ sym (changed_at-push h e);
      bare = λ q table up.
          bare_then floor joins h e.write q table up are
          ∙ sym (bare_now (h ++ e ∷ []) q table ∙ (λ i. list_all (is_other table) (joins_of-push h e i) && nat_le (dropped_up_to (long i) table (stays_of-push h e i)) q));
    }

-- ---- forgotten drops

-- the last drop behind a floor is the last, or both lie up to the floor
behind_tells : (floor : ℕ) (table : Text) (drops : List LastDrop) → TellDrops floor (last_drop table (drops_behind floor drops)) (last_drop table drops)
behind_tells floor table [] = record { low = omega arith; high = omega arith }
behind_tells floor table (d ∷ drops) = by (nat_lt floor d.position) refl (behind_tells floor table drops)
  where
    by : (b : Bool) → nat_lt floor d.position ≡ b → TellDrops floor (last_drop table (drops_behind floor drops)) (last_drop table drops) →
        TellDrops floor (last_drop table (cond b (d ∷ drops_behind floor drops) (drops_behind floor drops))) (max (position_of table d) (last_drop table drops))
    by true is rest = record { low = omega (arith, rest.low); high = omega (arith, rest.high) }
    by false is rest =
        let gone : position_of table d ≤ floor = not_above floor d.position (same d.table table) (ltb-false floor d.position is) in
        record { low = omega (arith, rest.low); high = omega (arith, rest.high, gone) }

-- the set of a history from a floor on is its set from a higher one on, without the drops up to there
pub AreJoins-forgotten : (floor above : ℕ) (joins : Joins) (h : History) → floor ≤ above → AreJoins floor joins h → AreJoins above (without_drops above joins) h
AreJoins-forgotten floor above joins h rises are = record {
  standing = are.standing;
  changed = are.changed;
  bare = λ q table up.
      ap (λ b. list_all (is_other table) joins.standing && b) (same_from_floor above (last_drop table (drops_behind above joins.drops)) (last_drop table joins.drops) q up (behind_tells above table joins.drops))
      ∙ are.bare q table (omega (arith, rises, up));
}

-- the set of no entries
pub AreJoins-nil : AreJoins 0 (record { standing = []; changed = 0; drops = [] }) []
AreJoins-nil = record { standing = refl; changed = refl; bare = λ q table up. le-leb 0 q (omega arith) }

-- ---- the set of the first entries

-- what the stays that are kept from a floor on tell of the first entries is the set of these
pub AreJoins-settled : (h : History) (floor p : ℕ) (drops : List LastDrop) → AllEntered h → floor ≤ p → p ≤ length h →
    ((table : Text) → last_drop table drops ≡ dropped_up_to p table (kept_stays floor (stays_of h))) →
    AreJoins floor (record {
      standing = joins_at p (kept_stays floor (stays_of h));
      changed = max (changed_at (take floor h)) (changed_up_to p (kept_stays floor (stays_of h)));
      drops = drops;
    }) (take p h)
AreJoins-settled h floor p drops entered above within tell =
    let long : length (take p h) ≡ p = omega (arith, length-take p h) in
    let stand = joins_kept floor p (stays_of h) above ∙ sym (joins_at_stays h p) in
    record {
      standing = stand;
      changed = changed_from_floor floor p h entered above within;
      bare = λ q table up.
          (λ i. list_all (is_other table) (stand i) && nat_le ((tell table) i) q)
          ∙ ap (λ b. list_all (is_other table) (joins_of (take p h)) && b)
          (same_from_floor floor (dropped_up_to p table (kept_stays floor (stays_of h))) (dropped_up_to p table (stays_of h)) q up (dropped_kept floor p table (stays_of h)))
          ∙ ap (λ n. list_all (is_other table) (joins_of (take p h)) && nat_le n q) (dropped_taken p table h)
          ∙ sym (bare_now (take p h) q table ∙ ap (λ n. list_all (is_other table) (joins_of (take p h)) && nat_le (dropped_up_to n table (stays_of (take p h))) q) long);
    }

-- the set of a history from a floor on is its set from a higher one on
pub AreJoins-higher : (floor above : ℕ) (joins : Joins) (h : History) → floor ≤ above → AreJoins floor joins h → AreJoins above joins h
AreJoins-higher floor above joins h up are = record { standing = are.standing; changed = are.changed; bare = λ q table high. are.bare q table (omega arith) }
