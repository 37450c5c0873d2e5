-- That the kinds of joins change nothing: each definition gives the same where each kind is `pull`.
use Rattle.std.proofs.Common.{◌≡◌, ℕ, zero, suc, ◌+◌, ◌-◌, ◌^◌, ◌||◌, ◌==◌, List, [], ◌∷◌, ◌++◌, length, map, filter, filter_map, flat_map, fold, zip, find, Bool, true, false, cond, not, nat_lt, nat_le, if◌then◌else◌, Option, Some, None, option_map, refl, sym, ap, ◌∙◌}
use Rattle.std.specs.List.{list_any, enumerate_from, cons_option}
use Rattle.std.proofs.lemmas.List.{map-append, length-map}
use Rattle.semantics.specs.Texts.{Text, Table, value_at, pairs_where, pairs_within}
use Rattle.semantics.specs.Patterns.{fits, overlaps}
use Rattle.semantics.specs.Joins.{Join, reads_output, keeps_slot_rule, keeps_source_rule}
use Rattle.semantics.specs.Histories.{Write, put, remove, declare, drop_join, Entry, History, DeclaredJoin, without, joins_after, joins_from, joins_of, base_after, is_computed, visible}
use Rattle.semantics.specs.Outputs.{matches, contributions, out}
use Rattle.semantics.specs.Graphs.{ranks, least_cycle}
use Rattle.semantics.specs.States.{reading, ranks_of, of_rank, merged, with_outputs, below, state}
use Rattle.semantics.specs.Verdicts.{computed, full, nojoin, slots, sources, clash, cycle, deep, many, first_cause, computed_cause, clash_cause, cycle_cause, joined, join_cause, drop_cause, write_cause, verdict}
use Rattle.semantics.specs.Answers.{Read, get, scan, Answer, found, absent, pairs, answer}
use Rattle.semantics.proofs.OfRankLemmas.{picked}
use Rattle.semantics.proofs.StateLemmas.{added, below-zero, below-suc, state-below}
use Rattle.growing_history.proofs.AdmissibleSets.{position_at}
use Rattle.growing_history.specs.KindLaws.{pulled, pulled_write, pulled_entry, pulled_history, KindsChangeNothing}

-- ---- the joins and pairs after a history

-- the standing join with `pull` for its kind
abbrev pulled_standing : DeclaredJoin → DeclaredJoin
pulled_standing s = record { position = s.position; join = pulled s.join }

-- the standing joins with `pull` for their kinds
abbrev pulled_joins : List DeclaredJoin → List DeclaredJoin
pulled_joins joins = map pulled_standing joins

-- the joins without one
without-pulled : (at : ℕ) (joins : List DeclaredJoin) → without at (pulled_joins joins) ≡ pulled_joins (without at joins)
without-pulled at [] = refl
without-pulled at (s ∷ joins) = by (not (s.position == at)) (without-pulled at joins)
  where
    by : (b : Bool) → without at (pulled_joins joins) ≡ pulled_joins (without at joins) → cond b (pulled_standing s ∷ without at (pulled_joins joins)) (without at (pulled_joins joins)) ≡ pulled_joins (cond b (s ∷ without at joins) (without at joins))
    by true e = ap (λ l. pulled_standing s ∷ l) e
    by false e = e

-- whether a position is that of a join
standing-pulled : (at : ℕ) (joins : List DeclaredJoin) → list_any (λ (s : DeclaredJoin). s.position == at) (pulled_joins joins) ≡ list_any (λ (s : DeclaredJoin). s.position == at) joins
standing-pulled at [] = refl
standing-pulled at (s ∷ joins) = ap (λ b. (s.position == at) || b) (standing-pulled at joins)

-- the joins after one write
joins_after-pulled : (position : ℕ) (w : Write) (joins : List DeclaredJoin) → joins_after position (pulled_write w) (pulled_joins joins) ≡ pulled_joins (joins_after position w joins)
joins_after-pulled position (put k v) joins = refl
joins_after-pulled position (remove k) joins = refl
joins_after-pulled position (drop_join at) joins = without-pulled at joins
joins_after-pulled position (declare j) joins = sym (map-append pulled_standing joins (record { position = position; join = j } ∷ []))

-- the joins after all writes
joins_from-pulled : (position : ℕ) (joins : List DeclaredJoin) (h : History) → joins_from position (pulled_joins joins) (pulled_history h) ≡ pulled_joins (joins_from position joins h)
joins_from-pulled position joins [] = refl
joins_from-pulled position joins (e ∷ h) =
    ap (λ js. joins_from (position + 1) js (pulled_history h)) (joins_after-pulled position e.write joins) ∙ joins_from-pulled (position + 1) (joins_after position e.write joins) h

-- the joins that stand are the same but for their kinds
joins_of-pulled : (h : History) → joins_of (pulled_history h) ≡ pulled_joins (joins_of h)
joins_of-pulled h = joins_from-pulled 1 [] h

-- a write leaves the same base pairs
base_after-pulled : (w : Write) (table : Table) → base_after (pulled_write w) table ≡ base_after w table
base_after-pulled (put k v) table = refl
base_after-pulled (remove k) table = refl
base_after-pulled (declare j) table = refl
base_after-pulled (drop_join at) table = refl

-- all writes leave the same base pairs
base_from-pulled : (h : History) (table : Table) → fold (λ (t : Table) (e : Entry). base_after e.write t) table (pulled_history h) ≡ fold (λ (t : Table) (e : Entry). base_after e.write t) table h
base_from-pulled [] table = refl
base_from-pulled (e ∷ h) table =
    ap (λ t. fold (λ (t : Table) (e : Entry). base_after e.write t) t (pulled_history h)) (base_after-pulled e.write table) ∙ base_from-pulled h (base_after e.write table)

-- the same outputs hide a key
is_computed-pulled : (joins : List DeclaredJoin) (key : Text) → is_computed (pulled_joins joins) key ≡ is_computed joins key
is_computed-pulled [] key = refl
is_computed-pulled (s ∷ joins) key = ap (λ b. fits s.join.output key || b) (is_computed-pulled joins key)

-- the same is visible
visible-pulled : (h : History) → visible (pulled_history h) ≡ visible h
visible-pulled h = λ i. pairs_where (λ key. not ((ap (λ joins. is_computed joins key) (joins_of-pulled h) ∙ is_computed-pulled (joins_of h) key) i)) (base_from-pulled h [] i)

-- ---- the reading

-- the numbered join with `pull` for its kind
abbrev pulled_numbered : ℕ × DeclaredJoin → ℕ × DeclaredJoin
pulled_numbered p = (p.0, pulled_standing p.1)

-- the joins have the same numbers
enumerate-pulled : (n : ℕ) (joins : List DeclaredJoin) → enumerate_from n (pulled_joins joins) ≡ map pulled_numbered (enumerate_from n joins)
enumerate-pulled n [] = refl
enumerate-pulled n (s ∷ joins) = ap (λ l. (n, pulled_standing s) ∷ l) (enumerate-pulled (n + 1) joins)

-- the pair of places, where the join at the first reads the one at the second
abbrev edge : ℕ × DeclaredJoin → ℕ × DeclaredJoin → Option (ℕ × ℕ)
edge a b = if reads_output a.1.join b.1.join then Some (a.0, b.0) else None

-- the edges of one join
edges_of-pulled : (a : ℕ × DeclaredJoin) (others : List (ℕ × DeclaredJoin)) → filter_map (edge (pulled_numbered a)) (map pulled_numbered others) ≡ filter_map (edge a) others
edges_of-pulled a [] = refl
edges_of-pulled a (b ∷ others) = ap (cons_option (edge a b)) (edges_of-pulled a others)

-- the edges of all joins
edges-pulled : (all others : List (ℕ × DeclaredJoin)) → flat_map (λ a. filter_map (edge a) (map pulled_numbered others)) (map pulled_numbered all) ≡ flat_map (λ a. filter_map (edge a) others) all
edges-pulled [] others = refl
edges-pulled (a ∷ all) others = λ i. edges_of-pulled a others i ++ edges-pulled all others i

-- the reading is the same
reading-pulled : (joins : List DeclaredJoin) → reading (pulled_joins joins) ≡ reading joins
unfolding reading
reading-pulled joins =
    ap (λ l. flat_map (λ a. filter_map (edge a) l) l) (enumerate-pulled 0 joins) ∙ edges-pulled (enumerate_from 0 joins) (enumerate_from 0 joins)

-- there are as many joins
length-pulled : (joins : List DeclaredJoin) → length (pulled_joins joins) ≡ length joins
length-pulled joins = length-map joins pulled_standing

-- the ranks are the same
ranks_of-pulled : (joins : List DeclaredJoin) → ranks_of (pulled_joins joins) ≡ ranks_of joins
ranks_of-pulled joins = λ i. ranks (length-pulled joins i) (reading-pulled joins i)

-- ---- the state

-- the first join, where it stands beside the number, and the others that do
picked_by : (s : DeclaredJoin) (rest : List DeclaredJoin) (more : List (ℕ × DeclaredJoin)) (n : ℕ) (b : Bool) → map (λ (p : ℕ × DeclaredJoin). p.1) more ≡ rest → map (λ (p : ℕ × DeclaredJoin). p.1) (cond b ((n, s) ∷ more) more) ≡ cond b (s ∷ rest) rest
picked_by s rest more n true e = ap (λ l. s ∷ l) e
picked_by s rest more n false e = e

-- a join that may stand in front, with `pull` for its kind
pulled_by : (s : DeclaredJoin) (rest : List DeclaredJoin) (b : Bool) → pulled_joins (cond b (s ∷ rest) rest) ≡ cond b (pulled_standing s ∷ pulled_joins rest) (pulled_joins rest)
pulled_by s rest true = refl
pulled_by s rest false = refl

-- the same joins stand beside a number
picked-pulled : (r : ℕ) (numbers : List ℕ) (joins : List DeclaredJoin) → picked r numbers (pulled_joins joins) ≡ pulled_joins (picked r numbers joins)
picked-pulled r [] joins = refl
picked-pulled r (n ∷ numbers) [] = refl
picked-pulled r (n ∷ numbers) (s ∷ joins) =
    picked_by (pulled_standing s) (pulled_joins (picked r numbers joins)) (filter (λ p. p.0 == r) (zip numbers (pulled_joins joins))) n (n == r) (picked-pulled r numbers joins)
    ∙ sym (pulled_by s (picked r numbers joins) (n == r))
    ∙ ap pulled_joins (sym (picked_by s (picked r numbers joins) (filter (λ p. p.0 == r) (zip numbers joins)) n (n == r) refl))

-- the same joins have a rank
of_rank-pulled : (r : ℕ) (joins : List DeclaredJoin) → of_rank r (pulled_joins joins) ≡ pulled_joins (of_rank r joins)
of_rank-pulled r joins = ap (λ numbers. picked r numbers (pulled_joins joins)) (ranks_of-pulled joins) ∙ picked-pulled r (ranks_of joins) joins

-- a join makes the same
out-pulled : (j : Join) (table : Table) → out (pulled j) table ≡ out j table
unfolding out contributions matches
out-pulled j table = refl

-- a table with the outputs of the joins is the same
added-pulled : (joins : List DeclaredJoin) (source table : Table) → added (pulled_joins joins) source table ≡ added joins source table
added-pulled [] source table = refl
added-pulled (s ∷ joins) source table =
    ap (λ pairs. added (pulled_joins joins) source (merged table pairs)) (out-pulled s.join source) ∙ added-pulled joins source (merged table (out s.join source))

-- the same stands below each rank
below-pulled : (h : History) (r : ℕ) → below (pulled_history h) r ≡ below h r
below-pulled h zero = below-zero (pulled_history h) ∙ visible-pulled h ∙ sym (below-zero h)
below-pulled h (suc r) =
    let table = below h r in
    below-suc (pulled_history h) r
    ∙ ap (with_outputs (of_rank r (joins_of (pulled_history h)))) (below-pulled h r)
    ∙ ap (λ joins. with_outputs joins table) (ap (of_rank r) (joins_of-pulled h) ∙ of_rank-pulled r (joins_of h))
    ∙ added-pulled (of_rank r (joins_of h)) table table
    ∙ sym (below-suc h r)

-- the state is the same
state-pulled : (h : History) → state (pulled_history h) ≡ state h
state-pulled h = state-below (pulled_history h) ∙ below-pulled h 8 ∙ sym (state-below h)

-- so is the length
length-history : (h : History) → length (pulled_history h) ≡ length h
length-history h = length-map h pulled_entry

-- the answer of a get at a position
abbrev found_or_absent : ℕ → Option Text → Answer
found_or_absent position None = absent position
found_or_absent position (Some value) = found position value

-- each read has the same answer
answer-pulled : (read : Read) (h : History) → answer read (pulled_history h) ≡ answer read h
unfolding answer
answer-pulled (get key) h = λ i. found_or_absent (length-history h i) (value_at key (state-pulled h i))
answer-pulled (scan range) h = λ i. pairs (length-history h i) (pairs_within range (state-pulled h i))

-- ---- the verdict

-- the position of the first join that passes a test
abbrev first_position : (Join → Bool) → List DeclaredJoin → Option ℕ
first_position test joins = option_map (λ s. s.position) (find (λ s. test s.join) joins)

-- the first join passes, or the position of the first of the others is the same
position_by : (s : DeclaredJoin) (o p : Option DeclaredJoin) (b : Bool) → option_map (λ (t : DeclaredJoin). t.position) o ≡ option_map (λ (t : DeclaredJoin). t.position) p
    → option_map (λ (t : DeclaredJoin). t.position) (cond b (Some (pulled_standing s)) o) ≡ option_map (λ (t : DeclaredJoin). t.position) (cond b (Some s) p)
position_by s o p true e = refl
position_by s o p false e = e

-- a test of outputs finds the same
first_fit-pulled : (key : Text) (joins : List DeclaredJoin) → first_position (λ j. fits j.output key) (pulled_joins joins) ≡ first_position (λ j. fits j.output key) joins
first_fit-pulled key [] = refl
first_fit-pulled key (s ∷ joins) =
    position_by s (find (λ t. fits t.join.output key) (pulled_joins joins)) (find (λ t. fits t.join.output key) joins) (fits s.join.output key) (first_fit-pulled key joins)

-- a test of overlaps finds the same
first_clash-pulled : (j : Join) (joins : List DeclaredJoin) → first_position (λ other. overlaps j.output other.output) (pulled_joins joins) ≡ first_position (λ other. overlaps j.output other.output) joins
first_clash-pulled j [] = refl
first_clash-pulled j (s ∷ joins) =
    position_by s (find (λ t. overlaps j.output t.join.output) (pulled_joins joins)) (find (λ t. overlaps j.output t.join.output) joins) (overlaps j.output s.join.output) (first_clash-pulled j joins)

-- the same position has a number
position_at-pulled : (joins : List DeclaredJoin) (n : ℕ) → position_at (pulled_joins joins) n ≡ position_at joins n
position_at-pulled [] n = refl
position_at-pulled (s ∷ joins) zero = refl
position_at-pulled (s ∷ joins) (suc n) = position_at-pulled joins n

-- the same cycle is carried
cycle_cause-pulled : (last : ℕ) (joins : List DeclaredJoin) → cycle_cause last (pulled_joins joins) ≡ cycle_cause last joins
cycle_cause-pulled last joins = λ i.
    option_map (λ c. cycle (map (λ n. position_at-pulled joins n i) c)) (least_cycle (length-pulled joins i) (reading-pulled joins i) last)

-- the set with the new join is the same but for kinds
joined-pulled : (joins : List DeclaredJoin) (position : ℕ) (j : Join) → joined (pulled_joins joins) position (pulled j) ≡ pulled_joins (joined joins position j)
joined-pulled joins position j = sym (map-append pulled_standing joins (record { position = position; join = j } ∷ []))

-- a join has the same cause against it
join_cause-pulled : (joins : List DeclaredJoin) (position : ℕ) (j : Join) → join_cause (pulled_joins joins) position (pulled j) ≡ join_cause joins position j
unfolding join_cause
join_cause-pulled joins position j =
    let clashed : clash_cause (pulled j) (pulled_joins joins) ≡ clash_cause j joins = ap (option_map clash) (first_clash-pulled j joins) in
    let long = length-pulled joins in
    let more = joined-pulled joins position j in
    let cycled : cycle_cause (length (pulled_joins joins)) (joined (pulled_joins joins) position (pulled j)) ≡ cycle_cause (length joins) (joined joins position j) =
    (λ i. cycle_cause (long i) (more i)) ∙ cycle_cause-pulled (length joins) (joined joins position j) in
    let ranked : ranks_of (joined (pulled_joins joins) position (pulled j)) ≡ ranks_of (joined joins position j) = ap ranks_of more ∙ ranks_of-pulled (joined joins position j) in
    λ i. first_cause ((if not (keeps_slot_rule j) then Some slots else None)
    ∷ (if not (keeps_source_rule j) then Some sources else None)
    ∷ clashed i
    ∷ cycled i
    ∷ (if list_any (nat_lt 7) (ranked i) then Some deep else None)
    ∷ (if nat_le 64 (long i) then Some many else None)
    ∷ [])

-- a key has the same cause against it
computed_cause-pulled : (key : Text) (h : History) → computed_cause key (joins_of (pulled_history h)) ≡ computed_cause key (joins_of h)
computed_cause-pulled key h = ap (computed_cause key) (joins_of-pulled h) ∙ ap (option_map computed) (first_fit-pulled key (joins_of h))

-- so has a write
write_cause-pulled : (w : Write) (h : History) → write_cause (pulled_write w) (pulled_history h) ≡ write_cause w h
write_cause-pulled (put k v) h = computed_cause-pulled k h
write_cause-pulled (remove k) h = computed_cause-pulled k h
write_cause-pulled (declare j) h =
    (λ i. join_cause (joins_of-pulled h i) (length-history h i + 1) (pulled j)) ∙ join_cause-pulled (joins_of h) (length h + 1) j
write_cause-pulled (drop_join at) h =
    ap (drop_cause at) (joins_of-pulled h) ∙ ap (λ b. if not b then Some nojoin else None) (standing-pulled at (joins_of h))

-- each write has the same verdict
verdict-pulled : (w : Write) (h : History) → verdict (pulled_write w) (pulled_history h) ≡ verdict w h
unfolding verdict
verdict-pulled w h = λ i. first_cause ((if nat_le (2 ^ 48 - 1) (length-history h i) then Some full else None) ∷ write_cause-pulled w h i ∷ [])

-- ---- the law

-- kinds change nothing
pub kinds_change_nothing_lem : KindsChangeNothing
kinds_change_nothing_lem h other e = record {
  states = sym (state-pulled h) ∙ ap state e ∙ state-pulled other;
  answers = λ read. sym (answer-pulled read h) ∙ ap (answer read) e ∙ answer-pulled read other;
  verdicts = λ w v d. sym (verdict-pulled w h) ∙ (λ i. verdict (d i) (e i)) ∙ verdict-pulled v other;
}
