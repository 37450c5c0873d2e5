-- The verdict from what is kept of a history, and what is kept after one entry more.
use Rattle.std.proofs.Common.{◌≡◌, ℕ, ◌+◌, ◌-◌, ◌^◌, [], ◌∷◌, ◌++◌, List, length, take, max, nat_le, true, false, ◌<◌, ◌≤◌, leb-false, Option, Some, None, if◌then◌else◌, refl, sym, ap, ◌∙◌, subst, length-append, arith}
use Rattle.semantics.specs.Texts.{Text}
use Rattle.semantics.specs.Joins.{Join}
use Rattle.semantics.specs.Histories.{Write, put, remove, declare, drop_join, Entry, History, joins_of, changed_at}
use Rattle.semantics.specs.States.{IsAdmissible}
use Rattle.semantics.specs.Stays.{stays_of, stays_after, joins_at}
use Rattle.semantics.specs.Verdicts.{Cause, full, first_cause, computed_cause, join_cause, drop_cause, write_cause, verdict}
use Rattle.semantics.proofs.AdmissibleSets.{entered_is_admissible_lem}
use Rattle.semantics.proofs.EnteredLemmas.{AllEntered-nil, AllEntered-push}
use Rattle.semantics.proofs.JoinSets.{first_cause-None, test-from_None}
use Rattle.semantics.proofs.StayLemmas.{joins_at_stays}
use Rattle.growing_history.proofs.EnteredLemmas.{entered_taken}
use Rattle.join_set.specs.Sets.{Joins, LastDrop, AreJoins, joins_then, last_drop}
use Rattle.std.proofs.lemmas.List.{take-append-le}
use Rattle.join_set.specs.Timelines.{changed_up_to, dropped_up_to, kept_stays}
use Rattle.join_set.specs.Summaries.{Summary, no_summary, StandsFor, IsOfSome, own_cause, cause_over, summary_after, summary_settled}
use Rattle.join_set.proofs.TimelineLemmas.{stays_of-push, changed_within}
use Rattle.join_set.proofs.SettleLemmas.{joins_kept, kept_kept, kept_after, changed_from_floor}
use Rattle.join_set.proofs.BareLemmas.{AreJoins-nil, AreJoins-push, AreJoins-forgotten, AreJoins-settled}

-- the cause against a write, once there is room
own_cause-StandsFor : (summary : Summary) (h : History) (write : Write) → StandsFor summary h → own_cause summary write ≡ write_cause write h
own_cause-StandsFor summary h (put k v) s = ap (λ joins. computed_cause k joins) s.joins.standing
own_cause-StandsFor summary h (remove k) s = ap (λ joins. computed_cause k joins) s.joins.standing
own_cause-StandsFor summary h (declare j) s =
    ap (λ joins. join_cause joins (summary.length + 1) j) s.joins.standing ∙ ap (λ n. join_cause (joins_of h) (n + 1) j) s.same_length
own_cause-StandsFor summary h (drop_join at) s = ap (λ joins. drop_cause at joins) s.joins.standing

-- the verdict is the same after each history that a summary stands for
pub cause_over-StandsFor : (summary : Summary) (h : History) (write : Write) → StandsFor summary h → cause_over summary write ≡ verdict write h
unfolding cause_over verdict
cause_over-StandsFor summary h write s =
    ap (λ n. first_cause ((if nat_le (2 ^ 48 - 1) n then Some full else None) ∷ own_cause summary write ∷ [])) s.same_length
    ∙ ap (λ c. first_cause ((if nat_le (2 ^ 48 - 1) (length h) then Some full else None) ∷ c ∷ [])) (own_cause-StandsFor summary h write s)

-- what is kept of the history without entries
pub StandsFor-nil : StandsFor no_summary []
StandsFor-nil = record { joins = AreJoins-nil; same_length = refl; within = omega arith; changed_at_floor = refl; kept = refl; entered = AllEntered-nil }

-- what is kept after one entry more, against which nothing was
pub StandsFor-push : (summary : Summary) (h : History) (client : ℕ) (write : Write) → StandsFor summary h → cause_over summary write ≡ None →
    StandsFor (summary_after summary write) (h ++ record { client = client; write = write } ∷ [])
StandsFor-push summary h client write s free =
    let e : Entry = record { client = client; write = write } in
    let next : length h + 1 ≡ summary.length + 1 = ap (λ n. n + 1) (sym s.same_length) in
    let behind : summary.floor < length h + 1 = omega (arith, s.within) in
    record {
      joins = subst (λ n. AreJoins summary.floor (joins_then n write summary.joins) (h ++ e ∷ [])) next (AreJoins-push summary.floor summary.joins h e s.joins);
      same_length = sym next ∙ sym (length-append h (e ∷ []));
      within = omega (arith, s.within, length-append h (e ∷ []));
      changed_at_floor = s.changed_at_floor ∙ ap changed_at (sym (take-append-le summary.floor h (e ∷ []) s.within));
      kept =
          (λ i. stays_after (sym next i) write (s.kept i)) ∙ sym (kept_after summary.floor (length h + 1) write (stays_of h) behind)
          ∙ ap (kept_stays summary.floor) (sym (stays_of-push h e));
      entered = AllEntered-push h e s.entered (sym (cause_over-StandsFor summary h write s) ∙ free);
    }

-- ---- some history

-- the last declaration or drop lies within the history
pub within_some : (summary : Summary) → IsOfSome summary → summary.joins.changed ≤ summary.length
within_some summary some =
    let s = some.stands in
    let last = changed_within some.history s.entered in
    omega (arith, last, s.joins.changed, s.same_length)

-- the joins that stand after the first entries, from the floor on, may stand
pub admissible_some : (summary : Summary) (p : ℕ) → IsOfSome summary → summary.floor ≤ p → IsAdmissible (joins_at p summary.stays)
admissible_some summary p some above =
    let s = some.stands in
    subst (λ js. IsAdmissible js) (joins_at_stays some.history p ∙ sym (joins_kept summary.floor p (stays_of some.history) above) ∙ ap (joins_at p) (sym s.kept))
    (entered_is_admissible_lem (take p some.history) (entered_taken p some.history s.entered))

-- what the stays tell of the first entries, from the floor on, is the set of these
pub taken_some : (summary : Summary) (h : History) (p : ℕ) (drops : List LastDrop) → StandsFor summary h → summary.floor ≤ p → p ≤ summary.length →
    ((table : Text) → last_drop table drops ≡ dropped_up_to p table summary.stays) →
    AreJoins summary.floor (record { standing = joins_at p summary.stays; changed = max summary.changed_at_floor (changed_up_to p summary.stays); drops = drops }) (take p h)
taken_some summary h p drops s above within tell =
    subst (λ (joins : Joins). AreJoins summary.floor joins (take p h))
    (λ i. record { standing = joins_at p (sym s.kept i); changed = max (sym s.changed_at_floor i) (changed_up_to p (sym s.kept i)); drops = drops })
    (AreJoins-settled h summary.floor p drops s.entered above (omega (arith, within, s.same_length)) (λ table. tell table ∙ ap (dropped_up_to p table) s.kept))

-- ---- a higher floor

-- what is kept of the history with a higher floor
pub StandsFor-settled : (summary : Summary) (h : History) (floor : ℕ) → StandsFor summary h → summary.floor ≤ floor → floor ≤ summary.length → StandsFor (summary_settled floor summary) h
StandsFor-settled summary h floor s rises within =
    let short : floor ≤ length h = omega (arith, within, s.same_length) in
    record {
      joins = AreJoins-forgotten summary.floor floor summary.joins h rises s.joins;
      same_length = s.same_length;
      within = short;
      changed_at_floor = (λ i. max (s.changed_at_floor i) (changed_up_to floor (s.kept i))) ∙ changed_from_floor summary.floor floor h s.entered rises short;
      kept = ap (kept_stays floor) s.kept ∙ kept_kept summary.floor floor (stays_of h) rises;
      entered = s.entered;
    }

-- it is of some history too
pub some_settled : (summary : Summary) (floor : ℕ) → IsOfSome summary → summary.floor ≤ floor → floor ≤ summary.length → IsOfSome (summary_settled floor summary)
some_settled summary floor some rises within =
    record { history = some.history; stands = StandsFor-settled summary some.history floor some.stands rises within; room = some.room }

-- ---- the cause from the summary

-- without room the history is full
pub cause_over-full : (summary : Summary) (write : Write) → nat_le (2 ^ 48 - 1) summary.length ≡ true → cause_over summary write ≡ Some full
unfolding cause_over
cause_over-full summary write h = ap (λ b. first_cause ((if b then Some full else None) ∷ own_cause summary write ∷ [])) h

-- the first of a single cause
first_single : (c : Option Cause) → first_cause (c ∷ []) ≡ c
first_single None = refl
first_single (Some c) = refl

-- with room the cause is the write's own
pub cause_over-room : (summary : Summary) (write : Write) → nat_le (2 ^ 48 - 1) summary.length ≡ false → cause_over summary write ≡ own_cause summary write
unfolding cause_over
cause_over-room summary write h = ap (λ b. first_cause ((if b then Some full else None) ∷ own_cause summary write ∷ [])) h ∙ first_single (own_cause summary write)

-- a write without a cause has room, and no cause of its own
pub free-from_cause_over : (summary : Summary) (write : Write) → cause_over summary write ≡ None → (summary.length < 2 ^ 48 - 1) × (own_cause summary write ≡ None)
unfolding cause_over
free-from_cause_over summary write h =
    let room = first_cause-None (if nat_le (2 ^ 48 - 1) summary.length then Some full else None) (own_cause summary write ∷ []) h in
    let none = test-from_None (nat_le (2 ^ 48 - 1) summary.length) full room.0 in
    (leb-false (2 ^ 48 - 1) summary.length none, (first_cause-None (own_cause summary write) [] room.1).0)

-- what is kept after one entry more is of some history too
pub some_after : (summary : Summary) (write : Write) → IsOfSome summary → cause_over summary write ≡ None → IsOfSome (summary_after summary write)
some_after summary write some free =
    let room = (free-from_cause_over summary write free).0 in
    record {
      history = some.history ++ record { client = 0; write = write } ∷ [];
      stands = StandsFor-push summary some.history 0 write some.stands free;
      room = omega (arith, room);
    }

-- a declaration that nothing refuses has no cause against its join
pub free_join : (summary : Summary) (j : Join) → cause_over summary (declare j) ≡ None → join_cause summary.joins.standing (summary.length + 1) j ≡ None
free_join summary j free = (free-from_cause_over summary (declare j) free).1

-- a drop that nothing refuses has none against it
pub free_drop : (summary : Summary) (position : ℕ) → cause_over summary (drop_join position) ≡ None → drop_cause position summary.joins.standing ≡ None
free_drop summary position free = (free-from_cause_over summary (drop_join position) free).1
