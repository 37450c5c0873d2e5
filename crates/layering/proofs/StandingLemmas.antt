-- Where joins stand in a history, and from where on they stay.
use Rattle.std.proofs.Common.{◌≡◌, ◌<◌, ◌≤◌, ◌+◌, ◌==◌, ℕ, zero, suc, Bool, true, false, if◌then◌else◌, List, [], ◌∷◌, take, refl, sym, ap, ◌∙◌, subst, arith, eq-eqb, ne_eqb}
use Rattle.std.proofs.lemmas.List.{take-take}
use Rattle.semantics.specs.Histories.{Write, put, remove, declare, drop_join, History, DeclaredJoin, joins_after, joins_from, joins_of, is_of_joins, changed_from, changed_at}
use Rattle.semantics.specs.Stays.{Stay, stays_after, stays_from, stays_of}
use Rattle.semantics.proofs.BaseLemmas.{ascend-joins_of}
use Rattle.semantics.proofs.StayLemmas.{joins_at_stays}
use Rattle.growing_history.specs.Entered.{HasRank}
use Rattle.layering.specs.StandingLaws.{JoinsAreStays, PositionNamesJoin, JoinsStaySince, SameJoinsSince, RankStays}
use Rattle.layering.proofs.ListLemmas.{find_first}

-- the joins that stand are those whose stays have begun and not ended
pub joins_are_stays : JoinsAreStays
joins_are_stays h p = joins_at_stays h p

-- a position names a join
pub position_names_join : PositionNamesJoin
position_names_join h place s at =
    let up = ascend-joins_of h in
    find_first (λ t. t.position == s.position) (joins_of h) place s at (eq-eqb s.position s.position refl)
    (λ k t less there. ne_eqb t.position s.position (λ e. let l = up.ascend k place t s less there at in absurd (omega arith)))

-- ---- the last declaration or drop

-- it does not lie before one that is known
changed_grows : (position last : ℕ) (h : History) → last < position → last ≤ changed_from position last h
changed_grows position last [] less = omega arith
changed_grows position last (e ∷ es) less = by (is_of_joins e.write) (λ now n. changed_grows (position + 1) now es n)
  where
    by : (b : Bool) → ((now : ℕ) → now < position + 1 → now ≤ changed_from (position + 1) now es) → last ≤ changed_from (position + 1) (if b then position else last) es
    by true rest = let r = rest position (omega arith) in omega (arith, r)
    by false rest = rest last (omega arith)

-- what is folded over entries by their positions
abbrev run : {S : Type 0} → (ℕ → Write → S → S) → ℕ → S → History → S
run step position s [] = s
run step position s (e ∷ es) = run step (position + 1) (step position e.write s) es

-- a step that declarations and drops alone take
abbrev IsOfJoins : {S : Type 0} → (ℕ → Write → S → S) → Type 0
IsOfJoins {S} step = (position : ℕ) (write : Write) (s : S) → is_of_joins write ≡ false → step position write s ≡ s

-- where the last declaration or drop lies before the entries, nothing is folded over them
run_past : {S : Type 0} (step : ℕ → Write → S → S) (m position last : ℕ) (s : S) (h : History) → IsOfJoins step → m < position → last ≤ m → changed_from position last h ≤ m → run step position s h ≡ s
run_past step m position last s [] kept less low up = refl
run_past step m position last s (e ∷ es) kept less low up = by (is_of_joins e.write) refl up (λ there. run_past step m (position + 1) last (step position e.write s) es kept (omega arith) low there)
  where
    by : (b : Bool) → is_of_joins e.write ≡ b → changed_from (position + 1) (if b then position else last) es ≤ m →
        (changed_from (position + 1) last es ≤ m → run step (position + 1) (step position e.write s) es ≡ step position e.write s) → run step (position + 1) (step position e.write s) es ≡ s
    by true is there rest = let g = changed_grows (position + 1) position es (omega arith) in absurd (omega (arith, g, there))
    by false is there rest = rest there ∙ kept position e.write s is

-- the entries after it do not matter
run_first : {S : Type 0} (step : ℕ → Write → S → S) (m n position last : ℕ) (s : S) (h : History) → IsOfJoins step → position + n ≡ m + 1 → last < position → changed_from position last h ≤ m →
    run step position s (take n h) ≡ run step position s h
run_first step m zero position last s h kept at less up = sym (run_past step m position last s h kept (omega (arith, at)) (let g = changed_grows position last h less in omega (arith, g, up)) up)
run_first step m (suc n) position last s [] kept at less up = refl
run_first step m (suc n) position last s (e ∷ es) kept at less up =
    by (is_of_joins e.write) up (λ now low there. run_first step m n (position + 1) now (step position e.write s) es kept (omega (arith, at)) low there)
  where
    by : (b : Bool) → changed_from (position + 1) (if b then position else last) es ≤ m →
        ((now : ℕ) → now < position + 1 → changed_from (position + 1) now es ≤ m → run step (position + 1) (step position e.write s) (take n es) ≡ run step (position + 1) (step position e.write s) es) →
        run step (position + 1) (step position e.write s) (take n es) ≡ run step (position + 1) (step position e.write s) es
    by true there rest = rest position (omega arith) there
    by false there rest = rest last (omega arith) there

-- so it is for what is folded from the first entry on
run_since : {S : Type 0} (step : ℕ → Write → S → S) (s : S) (h : History) (p : ℕ) → IsOfJoins step → changed_at h ≤ p → run step 1 s (take p h) ≡ run step 1 s h
run_since step s h p kept up = run_first step p p 1 0 s h kept (omega arith) (omega arith) up

-- the joins are folded so
joins_run : (position : ℕ) (joins : List DeclaredJoin) (h : History) → joins_from position joins h ≡ run joins_after position joins h
joins_run position joins [] = refl
joins_run position joins (e ∷ es) = joins_run (position + 1) (joins_after position e.write joins) es

joins_kept : IsOfJoins joins_after
joins_kept position (put k v) joins e = refl
joins_kept position (remove k) joins e = refl
joins_kept position (declare j) joins e = cc
joins_kept position (drop_join at) joins e = cc

-- their stays
stays_run : (position : ℕ) (stays : List Stay) (h : History) → stays_from position stays h ≡ run stays_after position stays h
stays_run position stays [] = refl
stays_run position stays (e ∷ es) = stays_run (position + 1) (stays_after position e.write stays) es

stays_kept : IsOfJoins stays_after
stays_kept position (put k v) stays e = refl
stays_kept position (remove k) stays e = refl
stays_kept position (declare j) stays e = cc
stays_kept position (drop_join at) stays e = cc

-- and the last declaration or drop itself
abbrev last_after : ℕ → Write → ℕ → ℕ
last_after position write last = if is_of_joins write then position else last

last_run : (position last : ℕ) (h : History) → changed_from position last h ≡ run last_after position last h
last_run position last [] = refl
last_run position last (e ∷ es) = last_run (position + 1) (if is_of_joins e.write then position else last) es

last_kept : IsOfJoins last_after
last_kept position write last none = ap (λ b. if b then position else last) none

-- from it on the same joins stand
pub same_joins_since : SameJoinsSince
same_joins_since h p up = joins_run 1 [] (take p h) ∙ run_since joins_after [] h p joins_kept up ∙ sym (joins_run 1 [] h)

-- they have the same stays
pub same_stays_since : (h : History) (p : ℕ) → changed_at h ≤ p → stays_of (take p h) ≡ stays_of h
same_stays_since h p up = stays_run 1 [] (take p h) ∙ run_since stays_after [] h p stays_kept up ∙ sym (stays_run 1 [] h)

-- and it is the last of the entries up to there
pub same_change_since : (h : History) (p : ℕ) → changed_at h ≤ p → changed_at (take p h) ≡ changed_at h
same_change_since h p up = last_run 1 0 (take p h) ∙ run_since last_after 0 h p last_kept up ∙ sym (last_run 1 0 h)

-- and up to a position after which there is none, at all positions between
pub joins_stay_since : JoinsStaySince
joins_stay_since h q p up x from to =
    let at : (y : ℕ) → q ≤ y → y ≤ p → joins_of (take y h) ≡ joins_of (take p h) = λ y low high. ap joins_of (sym (take-take y p h high)) ∙ same_joins_since (take p h) y (omega (arith, up, low)) in
    at x from to ∙ sym (at q (omega arith) (omega arith))

-- each keeps its rank
pub rank_stays : RankStays
rank_stays h q p j r stay order has = subst (λ joins. HasRank joins j r) (sym (stay p order (omega arith))) has
