-- Admissible sets of joins: a join without a cause against it keeps a set admissible, and so do all entries of a history.
use Rattle.std.proofs.Common.{◌≡◌, ◌≢◌, ℕ, suc, ◌+◌, ◌<◌, ◌≤◌, inl, inr, List, [], ◌∷◌, ◌++◌, length, Bool, true, false, Some, None, MatchOption, nat_lt, nat_le, ltb-false, leb-false, refl, sym, ap, subst, ◌∙◌, arith, length-append, append_assoc, append-nil, ◌-◌, ◌^◌, if◌then◌else◌}
use Rattle.std.specs.List.{AllByRecursion, list_any}
use Rattle.std.proofs.lemmas.Bool.{or_parts, not-false, false≢true}
use Rattle.semantics.specs.Patterns.{overlaps}
use Rattle.semantics.specs.Joins.{Join, keeps_slot_rule, keeps_source_rule}
use Rattle.semantics.specs.Histories.{Write, put, remove, declare, drop_join, Entry, History, DeclaredJoin, joins_after, joins_from, joins_of}
use Rattle.semantics.specs.Graphs.{IsWalkTo, IsCycle, HasNoCycle, IsAcyclic, IsLeastCycle, least_cycle}
use Rattle.semantics.specs.States.{reading, ranks_of, KeepsRules, IsAdmissible}
use Rattle.semantics.specs.Verdicts.{full, joined, join_cause, write_cause, verdict, AllEntered}
use Rattle.semantics.specs.AdmissibleLaws.{JoinedIsAdmissible}
use Rattle.semantics.specs.StateLaws.{EnteredIsAdmissible}
use Rattle.semantics.proofs.Members.{IsIn, IsIn-cases, AllByRecursion-append}
use Rattle.semantics.proofs.GraphCycles.{IsWalkTo-below, cycle-from_member}
use Rattle.semantics.proofs.GraphLeast.{cycle_is_least_lem}
use Rattle.semantics.proofs.JoinSets.{first_cause-None, test-from_None, option-from_None, AllByRecursion-from_find, AreApart-joined}
use Rattle.semantics.proofs.JoinReadings.{AreVertices-reading, reads-joined}
use Rattle.semantics.proofs.PartSets.{filtered_is_admissible}

-- a set with one more join has one more
pub length-joined : (joins : List DeclaredJoin) (position : ℕ) (j : Join) → length (joined joins position j) ≡ length joins + 1
length-joined joins position j = length-append joins (record { position = position; join = j } ∷ [])

-- a walk among earlier joins is one of the earlier set's reading
pub IsWalkTo-earlier : (joins : List DeclaredJoin) (position : ℕ) (j : Join) (goal : ℕ) (walk : List ℕ) → IsWalkTo (reading (joined joins position j)) goal walk →
    goal < length joins → ((q : ℕ) → IsIn q walk → q < length joins) → IsWalkTo (reading joins) goal walk
IsWalkTo-earlier joins position j goal [] l g below = l
IsWalkTo-earlier joins position j goal (a ∷ []) l g below = reads-joined joins position j a goal l (below a (inl refl)) g
IsWalkTo-earlier joins position j goal (a ∷ b ∷ walk) l g below = (
  reads-joined joins position j a b l.0 (below a (inl refl)) (below b (inr (inl refl))),
  IsWalkTo-earlier joins position j goal (b ∷ walk) l.1 g (λ q m. below q (inr m)),
)

-- a cycle of the larger set that does not go through its last join is one of the earlier set
earlier_cycle : (joins : List DeclaredJoin) (position : ℕ) (j : Join) (start : ℕ) (cycle : List ℕ) → IsCycle (reading (joined joins position j)) start cycle →
    (IsIn (length joins) cycle → ⊥) → IsCycle (reading joins) start cycle
earlier_cycle joins position j start [] c absent = absurd c.begins
earlier_cycle joins position j start (x ∷ cycle) c absent =
    let below : (q : ℕ) → IsIn q (x ∷ cycle) → q < length joins = λ q m.
    let apart : q ≢ length joins = λ e. absent (subst (λ z. IsIn z (x ∷ cycle)) e m) in
    let within = IsWalkTo-below (length (joined joins position j)) (reading (joined joins position j)) start (x ∷ cycle) (AreVertices-reading (joined joins position j)) c.closes q m in
    omega (arith, length-joined joins position j) in
    record {
      begins = c.begins;
      closes = IsWalkTo-earlier joins position j start (x ∷ cycle) c.closes (subst (λ z. z < length joins) (sym c.begins) (below x (inl refl))) below;
    }

-- where the earlier set's reading has no cycle, each one of the larger set goes through the last join
pub last-from_cycle : (joins : List DeclaredJoin) (position : ℕ) (j : Join) (start : ℕ) (cycle : List ℕ) → IsAcyclic (reading joins) →
    IsCycle (reading (joined joins position j)) start cycle → IsIn (length joins) cycle
last-from_cycle joins position j start cycle earlier c =
    elim (IsIn-cases (length joins) cycle) [
      | inl m ↦ m
      | inr absent ↦ absurd (earlier start cycle (earlier_cycle joins position j start cycle c absent))
    ]

-- the larger set's reading has no cycle where the earlier one's has none and none goes through the last join
pub IsAcyclic-joined : (joins : List DeclaredJoin) (position : ℕ) (j : Join) → IsAcyclic (reading joins) → HasNoCycle (reading (joined joins position j)) (length joins) →
    IsAcyclic (reading (joined joins position j))
IsAcyclic-joined joins position j earlier last start cycle c =
    let found = cycle-from_member (reading (joined joins position j)) start (length joins) cycle c (last-from_cycle joins position j start cycle earlier c) in
    last found.0 found.1

-- where no cycle is the least none goes through the vertex
pub HasNoCycle-from_None : (joins : List DeclaredJoin) (position : ℕ) (j : Join) →
    least_cycle (length (joined joins position j)) (reading (joined joins position j)) (length joins) ≡ None → HasNoCycle (reading (joined joins position j)) (length joins)
HasNoCycle-from_None joins position j e =
    let edges = reading (joined joins position j) in
    let n = length (joined joins position j) in
    subst (λ o. MatchOption o (HasNoCycle edges (length joins)) (IsLeastCycle edges (length joins))) e
    (cycle_is_least_lem n edges (length joins) (AreVertices-reading (joined joins position j)) (omega (arith, length-joined joins position j)))

-- ranks of which none is above 7 are each at most 7
pub AreShallow-from_test : (rs : List ℕ) → list_any (nat_lt 7) rs ≡ false → AllByRecursion (λ r. r ≤ 7) rs
AreShallow-from_test [] h = tt
AreShallow-from_test (r ∷ rs) h = let both = or_parts (nat_lt 7 r) (list_any (nat_lt 7) rs) h in (ltb-false 7 r both.0, AreShallow-from_test rs both.1)

-- an admissible set stays admissible with a join that has no cause against it
pub joined_is_admissible_lem : JoinedIsAdmissible
unfolding join_cause
joined_is_admissible_lem joins position j a h =
    let slots = first_cause-None _ _ h in
    let sources = first_cause-None _ _ slots.1 in
    let clash = first_cause-None _ _ sources.1 in
    let cycle = first_cause-None _ _ clash.1 in
    let deep = first_cause-None _ _ cycle.1 in
    let many = first_cause-None _ _ deep.1 in
    record {
      rules = AllByRecursion-append (λ s. KeepsRules s.join) joins (record { position = position; join = j } ∷ []) a.rules
          (record { slots = not-false (keeps_slot_rule j) (test-from_None _ _ slots.0); sources = not-false (keeps_source_rule j) (test-from_None _ _ sources.0) }, tt);
      apart = AreApart-joined joins position j a.apart (AllByRecursion-from_find (λ s. overlaps j.output s.join.output) joins (option-from_None _ _ (option-from_None _ _ clash.0)));
      acyclic = IsAcyclic-joined joins position j a.acyclic (HasNoCycle-from_None joins position j (option-from_None _ _ cycle.0));
      shallow = AreShallow-from_test (ranks_of (joined joins position j)) (test-from_None _ _ deep.0);
      few = let fewer = leb-false 64 (length joins) (test-from_None _ _ many.0) in omega (arith, length-joined joins position j);
    }

-- the empty set is admissible
pub IsAdmissible-nil : IsAdmissible []
unfolding reading
IsAdmissible-nil =
    record { rules = tt; apart = tt; acyclic = λ start cycle c. nothing_leads start cycle c.closes; shallow = tt; few = omega arith }
  where
    nothing_leads : (goal : ℕ) (walk : List ℕ) → IsWalkTo [] goal walk → ⊥
    nothing_leads goal [] l = l
    nothing_leads goal (a ∷ []) l = false≢true l
    nothing_leads goal (a ∷ b ∷ walk) l = false≢true l.0

-- the joins after two histories in a row
pub joins_from-append : (position : ℕ) (joins : List DeclaredJoin) (xs ys : History) → joins_from position joins (xs ++ ys) ≡ joins_from (position + length xs) (joins_from position joins xs) ys
joins_from-append position joins [] ys = let same : position ≡ position + 0 = omega arith in ap (λ p. joins_from p joins ys) same
joins_from-append position joins (e ∷ xs) ys =
    let rest = joins_from-append (position + 1) (joins_after position e.write joins) xs ys in
    let same : position + 1 + length xs ≡ position + suc (length xs) = omega arith in
    rest ∙ ap (λ p. joins_from p (joins_from (position + 1) (joins_after position e.write joins) xs) ys) same

-- the joins after one more entry
pub joins_of-push : (h : History) (e : Entry) → joins_of (h ++ e ∷ []) ≡ joins_after (length h + 1) e.write (joins_of h)
joins_of-push h e =
    let same : 1 + length h ≡ length h + 1 = omega arith in
    joins_from-append 1 [] h (e ∷ []) ∙ ap (λ p. joins_after p e.write (joins_of h)) same

-- a declaration without a cause against it has none against its join
pub join_cause-from_verdict : (j : Join) (h : History) → verdict (declare j) h ≡ None → join_cause (joins_of h) (length h + 1) j ≡ None
unfolding verdict
join_cause-from_verdict j h e =
    let roomy = first_cause-None (if nat_le (2 ^ 48 - 1) (length h) then Some full else None) (write_cause (declare j) h ∷ []) e in
    let own = first_cause-None (write_cause (declare j) h) [] roomy.1 in
    own.0

-- a write without a cause against it keeps the joins admissible
pub IsAdmissible-joins_after : (w : Write) (h : History) → verdict w h ≡ None → IsAdmissible (joins_of h) → IsAdmissible (joins_after (length h + 1) w (joins_of h))
IsAdmissible-joins_after (put k v) h e a = a
IsAdmissible-joins_after (remove k) h e a = a
IsAdmissible-joins_after (declare j) h e a = joined_is_admissible_lem (joins_of h) (length h + 1) j a (join_cause-from_verdict j h e)
IsAdmissible-joins_after (drop_join at) h e a = filtered_is_admissible _ (joins_of h) a

-- entries without a cause against them keep the joins admissible
pub IsAdmissible-from_entries : (h rest : History) → AllEntered (h ++ rest) → IsAdmissible (joins_of h) → IsAdmissible (joins_of (h ++ rest))
IsAdmissible-from_entries h [] entered a = subst (λ g. IsAdmissible (joins_of g)) (sym (append-nil h)) a
IsAdmissible-from_entries h (e ∷ rest) entered a =
    let same = append_assoc h (e ∷ []) rest in
    let here = entered h e rest refl in
    let next = subst IsAdmissible (sym (joins_of-push h e)) (IsAdmissible-joins_after e.write h here a) in
    subst (λ g. IsAdmissible (joins_of g)) same
    (IsAdmissible-from_entries (h ++ e ∷ []) rest (subst (λ g. AllEntered g) (sym same) entered) next)

-- the joins that stand after entries without a cause against them are admissible
pub entered_is_admissible_lem : EnteredIsAdmissible
entered_is_admissible_lem h entered = IsAdmissible-from_entries [] h entered IsAdmissible-nil
