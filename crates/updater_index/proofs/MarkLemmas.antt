-- Ids in a queue, one more or one less.
use Rattle.std.proofs.Common.{◌≡◌, ◌≢◌, ℕ, zero, suc, ◌<◌, ◌≤◌, Bool, true, false, cond, not, ◌&&◌, ◌||◌, ◌==◌, ◌⊎◌, inl, inr, List, [], ◌∷◌, ◌++◌, length, set, get_or, take, filter, replicate, refl, sym, ap, ◌∙◌, subst, ⊎_elim, arith}
use Rattle.std.specs.List.{list_any}
use Rattle.std.proofs.lemmas.Bool.{and_parts, and_from, eqb-true, eq-eqb, false≢true, cases_lt}
use Rattle.std.proofs.lemmas.Bool.Decides.{eqb_tells}
use Rattle.std.proofs.lemmas.List.{get_or-set_same, get_or-set_other, get_or_past, take_all}
use Rattle.std.proofs.lemmas.List.Folds.{list_any-append}
use Rattle.updater_index.specs.Registered.{has_id, with_mark, without_mark}
use Rattle.updater_index.specs.Marked.{are_once, AreQueued}

number_sym : (a b : ℕ) → (a == b) ≡ (b == a)
number_sym a b = elim (eqb_tells a b) [
  | inl same ↦ same.0 ∙ sym (eq-eqb b a (sym same.1))
  | inr other ↦ other.0 ∙ sym (other_by b a (λ e. other.1 (sym e)))
]
  where
    other_by : (a b : ℕ) → a ≢ b → (a == b) ≡ false
    other_by a b ne = elim (eqb_tells a b) [ inl same ↦ absurd (ne same.1) | inr other ↦ other.0 ]

or_last : (a b : Bool) → (a || (b || false)) ≡ (b || a)
or_last true true = refl
or_last true false = refl
or_last false true = refl
or_last false false = refl

has_more : (ids : List ℕ) (id q : ℕ) → has_id (ids ++ id ∷ []) q ≡ ((q == id) || has_id ids q)
has_more ids id q = list_any-append (λ x. q == x) ids (id ∷ []) ∙ or_last (has_id ids q) (q == id)

-- a set test, and every other
by_place : (tests : List Bool) (id : ℕ) (b : Bool) (P : ℕ → Bool → Type 0) → id < length tests → P id b → ((q : ℕ) → (id == q) ≡ false → P q (get_or tests q false)) → (q : ℕ) → P q (get_or (set tests id b) q false)
by_place tests id b P h here others q = elim (eqb_tells id q) [
  | inl same ↦ subst (λ x. P x (get_or (set tests id b) x false)) same.1 (subst (P id) (sym (get_or-set_same tests id b false h)) here)
  | inr other ↦ subst (P q) (sym (get_or-set_other tests id q b false (λ e. other.1 (sym e)))) (others q other.0)
]

not_from : (a : Bool) → not a ≡ true → a ≡ false
not_from true h = sym h
not_from false h = refl

from_not : (a : Bool) → a ≡ false → not a ≡ true
from_not true h = absurd (false≢true (sym h))
from_not false h = refl

or_parts : (a b : Bool) → (a || b) ≡ false → (a ≡ false) × (b ≡ false)
or_parts true b h = absurd (false≢true (sym h))
or_parts false b h = (refl, h)

once_push : (ids : List ℕ) (id : ℕ) → are_once ids ≡ true → has_id ids id ≡ false → are_once (ids ++ id ∷ []) ≡ true
once_push [] id o h = refl
once_push (x ∷ xs) id o h =
    let parts = and_parts (not (has_id xs x)) (are_once xs) o in
    let none = or_parts (id == x) (has_id xs id) h in
    and_from (not (has_id (xs ++ id ∷ []) x)) (are_once (xs ++ id ∷ []))
    (from_not (has_id (xs ++ id ∷ []) x) (has_more xs id x ∙ ap (λ b. b || has_id xs x) (number_sym x id ∙ none.0) ∙ not_from (has_id xs x) parts.0)) (once_push xs id parts.1 none.1)

-- one id more
pub queued_push : (tests : List Bool) (ids : List ℕ) (id : ℕ) → id < length tests → get_or tests id false ≡ false → AreQueued tests ids → AreQueued (set tests id true) (ids ++ id ∷ [])
queued_push tests ids id h none q = record {
  agrees = by_place tests id true (λ x b. b ≡ has_id (ids ++ id ∷ []) x) h
      (sym (has_more ids id id ∙ ap (λ b. b || has_id ids id) (eq-eqb id id refl)))
      (λ x e. q.agrees x ∙ sym (has_more ids id x ∙ ap (λ b. b || has_id ids x) (number_sym x id ∙ e)));
  once = once_push ids id q.once (sym (q.agrees id) ∙ none);
}

-- the first one less
pub queued_pop : (tests : List Bool) (ids : List ℕ) (id : ℕ) → id < length tests → AreQueued tests (id ∷ ids) → AreQueued (set tests id false) ids
queued_pop tests ids id h q =
    let parts = and_parts (not (has_id ids id)) (are_once ids) q.once in
    record {
      agrees = by_place tests id false (λ x b. b ≡ has_id ids x) h (sym (not_from (has_id ids id) parts.0))
          (λ x e. q.agrees x ∙ ap (λ b. b || has_id ids x) (number_sym x id ∙ e));
      once = parts.1;
    }

-- each one has a test
pub queued_below : (tests : List Bool) (ids : List ℕ) (id : ℕ) → AreQueued tests ids → has_id ids id ≡ true → id < length tests
queued_below tests ids id q there = ⊎_elim (λ (lt : id < length tests). lt) (λ (le : length tests ≤ id). absurd (false≢true (sym (get_or_past tests id false le) ∙ q.agrees id ∙ there))) (cases_lt id (length tests))

-- so has the first one
pub first_below : (tests : List Bool) (ids : List ℕ) (id : ℕ) → AreQueued tests (id ∷ ids) → id < length tests
first_below tests ids id q = queued_below tests (id ∷ ids) id q (ap (λ b. b || has_id ids id) (eq-eqb id id refl))

-- ---- more tests

none_behind : (tests : List Bool) (m q : ℕ) → get_or (tests ++ replicate m false) q false ≡ get_or tests q false
none_behind [] zero q = refl
none_behind [] (suc m) zero = refl
none_behind [] (suc m) (suc q) = none_behind [] m q
none_behind (b ∷ bs) m zero = refl
none_behind (b ∷ bs) m (suc q) = none_behind bs m q

-- where tests are lengthened, each id is tested as before
pub tests_longer : (tests more : List Bool) (n m : ℕ) → length tests ≤ n → more ≡ take n tests ++ replicate m false → (q : ℕ) → get_or more q false ≡ get_or tests q false
tests_longer tests more n m h is q = ap (λ (l : List Bool). get_or l q false) (is ∙ ap (λ (l : List Bool). l ++ replicate m false) (take_all n tests h)) ∙ none_behind tests m q

-- then the same ids are in the queue
pub queued_same : (tests more : List Bool) (ids left : List ℕ) → ((q : ℕ) → get_or more q false ≡ get_or tests q false) → left ≡ ids → AreQueued tests ids → AreQueued more left
queued_same tests more ids left same is queued = subst (AreQueued more) (sym is) (record { agrees = λ q. same q ∙ queued.agrees q; once = queued.once })

-- ---- without one id

has_by : (b : Bool) (x : ℕ) (ids : List ℕ) (q : ℕ) → has_id (cond b (x ∷ ids) ids) q ≡ ((b && (q == x)) || has_id ids q)
has_by true x ids q = refl
has_by false x ids q = refl

kept_test : (id q x : ℕ) (c d : Bool) → c ≡ (not (id == q) && d) → ((not (id == x) && (q == x)) || c) ≡ (not (id == q) && ((q == x) || d))
kept_test id q x c d e = elim (eqb_tells q x) [
  | inl same ↦ (λ i. (not (id == sym same.1 i) && same.0 i) || e i) ∙ both (not (id == q)) d ∙ ap (λ b. not (id == q) && (b || d)) (sym same.0)
  | inr other ↦ (λ i. (not (id == x) && other.0 i) || e i) ∙ none (not (id == x)) (not (id == q) && d) ∙ ap (λ b. not (id == q) && (b || d)) (sym other.0)
]
  where
    both : (a d : Bool) → ((a && true) || (a && d)) ≡ (a && (true || d))
    both true d = refl
    both false d = refl

    none : (a c : Bool) → ((a && false) || c) ≡ c
    none true c = refl
    none false c = refl

has_without : (id : ℕ) (ids : List ℕ) (q : ℕ) → has_id (without_mark id ids) q ≡ (not (id == q) && has_id ids q)
has_without id [] q = sym (and_false (not (id == q)))
  where
    and_false : (b : Bool) → (b && false) ≡ false
    and_false true = refl
    and_false false = refl
has_without id (x ∷ xs) q = has_by (not (id == x)) x (without_mark id xs) q ∙ kept_test id q x (has_id (without_mark id xs) q) (has_id xs q) (has_without id xs q)

false_and : (a b : Bool) → b ≡ false → (a && b) ≡ false
false_and true b h = h
false_and false b h = refl

once_by : (b : Bool) (x : ℕ) (ids : List ℕ) → not (has_id ids x) ≡ true → are_once ids ≡ true → are_once (cond b (x ∷ ids) ids) ≡ true
once_by true x ids h o = and_from (not (has_id ids x)) (are_once ids) h o
once_by false x ids h o = o

once_without : (id : ℕ) (ids : List ℕ) → are_once ids ≡ true → are_once (without_mark id ids) ≡ true
once_without id [] o = refl
once_without id (x ∷ xs) o =
    let parts = and_parts (not (has_id xs x)) (are_once xs) o in
    once_by (not (id == x)) x (without_mark id xs) (from_not (has_id (without_mark id xs) x) (has_without id xs x ∙ false_and (not (id == x)) (has_id xs x) (not_from (has_id xs x) parts.0))) (once_without id xs parts.1)

-- one id less, wherever it is
pub queued_without : (tests : List Bool) (ids left : List ℕ) (id : ℕ) → id < length tests → left ≡ without_mark id ids → AreQueued tests ids → AreQueued (set tests id false) left
queued_without tests ids left id h is q = subst (AreQueued (set tests id false)) (sym is) (record {
  agrees = by_place tests id false (λ x b. b ≡ has_id (without_mark id ids) x) h
      (sym (has_without id ids id ∙ ap (λ b. not b && has_id ids id) (eq-eqb id id refl)))
      (λ x e. q.agrees x ∙ sym (has_without id ids x ∙ ap (λ b. not b && has_id ids x) e));
  once = once_without id ids q.once;
})

-- one that is not there
pub without_none : (id : ℕ) (ids : List ℕ) → has_id ids id ≡ false → without_mark id ids ≡ ids
without_none id [] h = refl
without_none id (x ∷ xs) h =
    let parts = or_parts (id == x) (has_id xs id) h in
    ap (λ b. cond (not b) (x ∷ without_mark id xs) (without_mark id xs)) parts.0 ∙ ap (λ ys. x ∷ ys) (without_none id xs parts.1)

-- no ids
pub queued_none : (tests : List Bool) (ids : List ℕ) → ((id : ℕ) → get_or tests id false ≡ false) → ids ≡ [] → AreQueued tests ids
queued_none tests ids h e = subst (AreQueued tests) (sym e) (record { agrees = h; once = refl })
