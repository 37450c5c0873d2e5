-- A join has no cause against it exactly where the set with it is admissible.
use Rattle.std.proofs.Common.{◌≡◌, ℕ, ◌+◌, ◌-◌, ◌^◌, ◌<◌, ◌≤◌, ◌==◌, List, [], ◌∷◌, ◌++◌, length, Bool, true, false, cond, nat_lt, nat_le, ltb-true, leb-true, leb-false, Option, Some, None, option_map, unwrap_or, slice_get, map, not, find, refl, ap, ◌∙◌, arith, if◌then◌else◌}
use Rattle.std.specs.List.{AllByRecursion, list_any}
use Rattle.std.proofs.lemmas.Bool.{or_parts, or_from, not-false, false_from_ne_true, cond-false}
use Rattle.semantics.specs.Patterns.{overlaps}
use Rattle.semantics.specs.Joins.{Join, keeps_slot_rule, keeps_source_rule}
use Rattle.semantics.specs.Histories.{declare, drop_join, History, DeclaredJoin, joins_of}
use Rattle.semantics.specs.States.{reading, ranks_of, KeepsRules, AreApart, IsAdmissible}
use Rattle.semantics.specs.Verdicts.{Cause, full, nojoin, slots, sources, clash, cycle, deep, many, first_cause, clash_cause, cycle_cause, joined, join_cause, drop_cause, write_cause, verdict}
use Rattle.semantics.proofs.OfRankLemmas.{overlaps_symmetric}
use Rattle.semantics.proofs.GraphLeast.{least_cycle-from_HasNoCycle}
use Rattle.semantics.proofs.JoinSets.{first_cause-None, test-from_None}
use Rattle.semantics.proofs.JoinReadings.{AreVertices-reading}
use Rattle.semantics.proofs.AdmissibleSets.{length-joined, joined_is_admissible_lem}
use Rattle.growing_history.specs.AdmissibleLaws.{JoinsWhereAdmissible, MayDeclare, DeclaresWhereAdmissible, PartIsAdmissible, DropsWhereStanding}
use Rattle.semantics.proofs.PartSets.{filtered_is_admissible}

-- ---- no cause

-- where the first is no cause, nor any of the others, there is none
none_first : (c : Option Cause) (cs : List (Option Cause)) → c ≡ None → first_cause cs ≡ None → first_cause (c ∷ cs) ≡ None
none_first c cs e rest = ap (λ o. first_cause (o ∷ cs)) e ∙ rest

-- a test that fails gives nothing
none_by_test : {X : Type 0} (b : Bool) (x : X) → b ≡ false → cond b (Some x) None ≡ None
none_by_test b x e = cond-false b (Some x) None e

-- where each element fails the test nothing is found
find-none : {X : Type 0} (p : X → Bool) (xs : List X) → AllByRecursion (λ x. p x ≡ false) xs → find p xs ≡ None
find-none p [] h = refl
find-none p (x ∷ xs) h = cond-false (p x) (Some x) (find p xs) h.0 ∙ find-none p xs h.1

-- where each element fails the test none passes
list_any-none : {X : Type 0} (p : X → Bool) (xs : List X) → AllByRecursion (λ x. p x ≡ false) xs → list_any p xs ≡ false
list_any-none p [] h = refl
list_any-none p (x ∷ xs) h = or_from (p x) (list_any p xs) h.0 (list_any-none p xs h.1)

-- what follows of each element
each-then : {X : Type 0} (P Q : X → Type 0) (xs : List X) → ((x : X) → P x → Q x) → AllByRecursion P xs → AllByRecursion Q xs
each-then P Q [] f h = tt
each-then P Q (x ∷ xs) f h = (f x h.0, each-then P Q xs f h.1)

-- ---- a set with one more join

-- what holds of each of a list with one more holds of that one
last_of : {X : Type 0} (P : X → Type 0) (xs : List X) (x : X) → AllByRecursion P (xs ++ x ∷ []) → P x
last_of P [] x h = h.0
last_of P (y ∷ xs) x h = last_of P xs x h.1

-- where the outputs of the larger set are apart, the new one is apart from each
apart_new : (joins : List DeclaredJoin) (position : ℕ) (j : Join) → AreApart (joined joins position j) → AllByRecursion (λ s. overlaps j.output s.join.output ≡ false) joins
apart_new [] position j h = tt
apart_new (s ∷ joins) position j h = (
  overlaps_symmetric j.output s.join.output ∙ last_of (λ other. overlaps s.join.output other.join.output ≡ false) joins (record { position = position; join = j }) h.0,
  apart_new joins position j h.1,
)

-- a rank of at most 7 is not above 7
not_deep : (r : ℕ) → r ≤ 7 → nat_lt 7 r ≡ false
not_deep r h = false_from_ne_true (nat_lt 7 r) (λ e. let above = ltb-true 7 r e in omega arith)

-- a number below another is not the same or greater
not_above : (a b : ℕ) → b < a → nat_le a b ≡ false
not_above a b h = false_from_ne_true (nat_le a b) (λ e. let above = leb-true a b e in omega arith)

-- a test that holds does not fail
not_failed : (b : Bool) → b ≡ true → not b ≡ false
not_failed b e = ap not e

-- the position of the join with a number
abbrev pub position_at : List DeclaredJoin → ℕ → ℕ
position_at joins i = unwrap_or (option_map (λ s. s.position) (slice_get joins i)) 0

-- where the larger set is admissible, the join has no cause against it
join_cause-none : (joins : List DeclaredJoin) (position : ℕ) (j : Join) → IsAdmissible (joined joins position j) → join_cause joins position j ≡ None
unfolding join_cause
join_cause-none joins position j a =
    let more = joined joins position j in
    let rules = last_of (λ s. KeepsRules s.join) joins (record { position = position; join = j }) a.rules in
    let long = length-joined joins position j in
    let within = a.few in
    let by_test : Bool → Cause → Option Cause = λ test cause. if test then Some cause else None in
    let slotted = by_test (not (keeps_slot_rule j)) slots in
    let sourced = by_test (not (keeps_source_rule j)) sources in
    let clashed = clash_cause j joins in
    let cycled = cycle_cause (length joins) more in
    let deepened = by_test (list_any (nat_lt 7) (ranks_of more)) deep in
    let crowded = by_test (nat_le 64 (length joins)) many in
    let no_clash : clashed ≡ None = ap (λ o. option_map clash (option_map (λ (s : DeclaredJoin). s.position) o)) (find-none (λ s. overlaps j.output s.join.output) joins (apart_new joins position j a.apart)) in
    let no_cycle : cycled ≡ None = ap (option_map (λ c. cycle (map (position_at more) c))) (least_cycle-from_HasNoCycle (length more) (reading more) (length joins) (AreVertices-reading more) (omega arith) (a.acyclic (length joins))) in
    let not_deeper = list_any-none (nat_lt 7) (ranks_of more) (each-then (λ r. r ≤ 7) (λ r. nat_lt 7 r ≡ false) (ranks_of more) not_deep a.shallow) in
    none_first slotted (sourced ∷ clashed ∷ cycled ∷ deepened ∷ crowded ∷ []) (none_by_test (not (keeps_slot_rule j)) slots (not_failed (keeps_slot_rule j) rules.slots))
    (none_first sourced (clashed ∷ cycled ∷ deepened ∷ crowded ∷ []) (none_by_test (not (keeps_source_rule j)) sources (not_failed (keeps_source_rule j) rules.sources))
    (none_first clashed (cycled ∷ deepened ∷ crowded ∷ []) no_clash
    (none_first cycled (deepened ∷ crowded ∷ []) no_cycle
    (none_first deepened (crowded ∷ []) (none_by_test (list_any (nat_lt 7) (ranks_of more)) deep not_deeper)
    (none_first crowded [] (none_by_test (nat_le 64 (length joins)) many (not_above 64 (length joins) (omega arith))) refl)))))

-- a join has no cause against it exactly where the set with it is admissible
pub joins_where_admissible_lem : JoinsWhereAdmissible
joins_where_admissible_lem joins position j a = (joined_is_admissible_lem joins position j a, join_cause-none joins position j)

-- ---- declarations

-- a declaration that may enter has no cause against it
verdict-none : (j : Join) (h : History) → MayDeclare j h → verdict (declare j) h ≡ None
unfolding verdict
verdict-none j h m =
    let room : (if nat_le (2 ^ 48 - 1) (length h) then Some full else None) ≡ None = none_by_test (nat_le (2 ^ 48 - 1) (length h)) full (not_above (2 ^ 48 - 1) (length h) m.roomy) in
    let own = join_cause (joins_of h) (length h + 1) j in
    none_first (if nat_le (2 ^ 48 - 1) (length h) then Some full else None) (own ∷ []) room
    (none_first own [] (join_cause-none (joins_of h) (length h + 1) j m.admissible) refl)

-- a declaration without a cause against it may enter
may-from_verdict : (j : Join) (h : History) → IsAdmissible (joins_of h) → verdict (declare j) h ≡ None → MayDeclare j h
unfolding verdict
may-from_verdict j h a e =
    let roomy = first_cause-None (if nat_le (2 ^ 48 - 1) (length h) then Some full else None) (write_cause (declare j) h ∷ []) e in
    let own = first_cause-None (write_cause (declare j) h) [] roomy.1 in
    record {
      roomy = leb-false (2 ^ 48 - 1) (length h) (test-from_None _ _ roomy.0);
      admissible = joined_is_admissible_lem (joins_of h) (length h + 1) j a own.0;
    }

-- a declaration has no cause against it exactly where it may enter
pub declares_where_admissible_lem : DeclaresWhereAdmissible
declares_where_admissible_lem j h a = (may-from_verdict j h a, verdict-none j h)

-- ---- drops

pub part_is_admissible_lem : PartIsAdmissible
part_is_admissible_lem joins position a = filtered_is_admissible _ joins a

pub drops_where_standing_lem : DropsWhereStanding
unfolding verdict
drops_where_standing_lem at h = (
  λ e.
      let roomy = first_cause-None (if nat_le (2 ^ 48 - 1) (length h) then Some full else None) (write_cause (drop_join at) h ∷ []) e in
      let own = first_cause-None (write_cause (drop_join at) h) [] roomy.1 in
      (leb-false (2 ^ 48 - 1) (length h) (test-from_None _ _ roomy.0), not-false (list_any (λ s. s.position == at) (joins_of h)) (test-from_None _ _ own.0)),
  λ m.
      let room : (if nat_le (2 ^ 48 - 1) (length h) then Some full else None) ≡ None = none_by_test (nat_le (2 ^ 48 - 1) (length h)) full (not_above (2 ^ 48 - 1) (length h) m.0) in
      none_first (if nat_le (2 ^ 48 - 1) (length h) then Some full else None) (drop_cause at (joins_of h) ∷ []) room
      (none_first (drop_cause at (joins_of h)) [] (none_by_test (not (list_any (λ s. s.position == at) (joins_of h))) nojoin (not_failed (list_any (λ s. s.position == at) (joins_of h)) m.1)) refl),
)
