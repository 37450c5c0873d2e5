-- At which forks the ranges that contain a key are.
use Rattle.std.proofs.Common.{◌≡◌, ℕ, zero, suc, ◌+◌, ◌<◌, ◌≤◌, Bool, true, false, cond, not, ◌&&◌, ◌||◌, ◌==◌, ◌⊎◌, inl, inr, List, [], ◌∷◌, ◌++◌, length, take, filter, Contains, Option, Some, None, is_some, refl, sym, ap, ◌∙◌, subst, Ordering, Less, Equal, Greater, is_lt, arith, length-take}
use Rattle.std.specs.Cmp.{ranks, nat_cmp_total, unsigned_tied, tied_itself}
use Rattle.std.specs.List.{list_any, All}
use Rattle.std.specs.Ordering.{nat_cmp, MatchOrdering, ordering_then, ordering_reverse, is_le, is_gt, is_eq}
use Rattle.std.specs.BTreeMap.{BTreeMap, is_at}
use Rattle.std.specs.BTreeMap.Range.{range_contains, IsEntryInRange}
use Rattle.std.specs.BTreeSet.{BTreeSet, contains}
use Rattle.std.specs.declared.ops.Bound.{Bound}
use Rattle.std.specs.declared.ops.Bound.TheVariants.{Included, Excluded, Unbounded}
use Rattle.std.proofs.lemmas.Bool.{and_parts, and_from, or_left, or_right, or_cases, eqb-true, eq-eqb, false≢true}
use Rattle.std.proofs.lemmas.List.Elements.{All-contains}
use Rattle.semantics.specs.Texts.{Text, text_cmp, Range, within}
use Rattle.semantics.proofs.MemberLemmas.{Has, has_from_any, any_from_has, has_filter, has_filtered, contains_from_has}
use Rattle.semantics.proofs.TableLemmas.{text_total, tie_itself}
use Rattle.updater_index.specs.declared.fork.Fork.{Fork}
use Rattle.updater_index.specs.declared.side.Span.{Span}
use Rattle.updater_index.specs.Shared.{shared_len, next_at}
use Rattle.updater_index.specs.Forks.{fork_of, fork_cmp}
use Rattle.updater_index.specs.Registered.{has_id}
use Rattle.updater_index.specs.Spans.{has_low, FindsHolders, AllFound}
use Rattle.updater_index.specs.Sides.{Sides, side_at, is_among, is_registered, is_registered_at, is_at_some, AreForks}
use Rattle.updater_index.proofs.ForkLemmas.{tied_forks, fork_ties_itself, goes_on}
use Rattle.updater_index.proofs.FindLemmas.{finds_trans, finds_none}

-- ---- the next text

-- a text is below the same with a byte behind it
less_after : (p : Text) → text_cmp p (p ++ 0 ∷ []) ≡ Less
less_after [] = refl
less_after (b ∷ bs) = ap (λ o. ordering_then o (text_cmp bs (bs ++ 0 ∷ []))) (tied_itself nat_cmp_total b) ∙ less_after bs

greater_after : (p : Text) → text_cmp (p ++ 0 ∷ []) p ≡ Greater
greater_after p = text_total.antisymm (p ++ 0 ∷ []) p ∙ ap ordering_reverse (less_after p)

-- the window is not reversed
pub window_is_forward : (p low high : Text) (n : ℕ) → low ≡ p → high ≡ p ++ 0 ∷ [] → is_gt (ordering_then (text_cmp low high) (nat_cmp n 0)) ≡ false
window_is_forward p low high n e f = (λ i. is_gt (ordering_then (text_cmp (e i) (f i)) (nat_cmp n 0))) ∙ ap (λ o. is_gt (ordering_then o (nat_cmp n 0))) (less_after p)

le_test : (n m : ℕ) → n ≤ m → is_le (nat_cmp n m) ≡ true
le_test n m h = (elim (nat_cmp n m) as (λ w. MatchOrdering w (n < m) (n ≡ m) (m < n) → is_le w ≡ true) [
  | Less ↦ λ e. refl
  | Equal ↦ λ e. refl
  | Greater ↦ λ e. absurd (omega arith)
]) (ranks n m)

-- a fork with the beginning and a greater byte, or the same, is in the window
in_window : (p : Text) (n : ℕ) (first last fork : Fork) → first.beginning ≡ p → first.next ≡ n → last.beginning ≡ p ++ 0 ∷ [] → fork.beginning ≡ p → n ≤ fork.next →
    range_contains fork_cmp (Included first) (Excluded last) fork ≡ true
in_window p n first last fork e f g h le =
    and_from (is_le (fork_cmp first fork)) (not (is_le (fork_cmp last fork)))
    ((λ i. is_le (ordering_then (text_cmp (e i) (h i)) (nat_cmp (f i) fork.next))) ∙ ap (λ o. is_le (ordering_then o (nat_cmp n fork.next))) (tie_itself p) ∙ le_test n fork.next le)
    ((λ i. not (is_le (ordering_then (text_cmp (g i) (h i)) (nat_cmp last.next fork.next)))) ∙ ap (λ o. not (is_le (ordering_then o (nat_cmp last.next fork.next)))) (greater_after p))

-- the fork of a range that contains the key is in the window of the key
range_in_window : (key : Text) (r : Range) (first last : Fork) (shared : ℕ) → shared_len r.low r.high ≡ shared → first.beginning ≡ take shared key → first.next ≡ next_at shared key → last.beginning ≡ take shared key ++ 0 ∷ [] →
    within r key ≡ true → range_contains fork_cmp (Included first) (Excluded last) (fork_of r) ≡ true
range_in_window key r first last shared s e f g h =
    let parts = and_parts (is_le (text_cmp r.low key)) (is_lt (text_cmp key r.high)) h in
    let goes = goes_on r.low r.high key parts.0 parts.1 in
    let n = shared_len r.low r.high in
    in_window (take n key) (next_at n key) first last (fork_of r) (e ∙ ap (λ m. take m key) (sym s)) (f ∙ ap (λ m. next_at m key) (sym s)) (g ∙ ap (λ m. take m key ++ 0 ∷ []) (sym s)) (sym goes.begins) goes.next

-- ---- forks of a map

-- what a look-up finds stands in the list
found_in : (fork : Fork) (sides : Sides) (r : Range) (id : ℕ) → is_among (side_at fork sides) r id ≡ true → (e : Fork × List Span) × Has sides e × (is_at (fork_cmp fork) e.0 ≡ true) × (has_low e.1 r id ≡ true)
found_in fork [] r id h = absurd (false≢true h)
found_in fork (e ∷ es) r id h = (elim (is_at (fork_cmp fork) e.0) as (λ t. is_at (fork_cmp fork) e.0 ≡ t → is_among (cond t (Some e.1) (side_at fork es)) r id ≡ true →
    (x : Fork × List Span) × Has (e ∷ es) x × (is_at (fork_cmp fork) x.0 ≡ true) × (has_low x.1 r id ≡ true)) [
      | true ↦ λ t g. (e, inl refl, t, g)
      | false ↦ λ t g. let on = found_in fork es r id g in (on.0, inr on.1, on.2, on.3)
    ]) refl h

-- a range at a fork that is walked is registered
pub walked_is_registered : (lengths : BTreeSet ℕ) (m : BTreeMap Fork (List Span)) (low high : Bound Fork) (walk : Sides) → AreForks lengths m.entries → All (IsEntryInRange fork_cmp low high m) walk →
    (r : Range) (id : ℕ) → is_at_some walk r id ≡ true → is_registered m.entries r id ≡ true
walked_is_registered lengths m low high walk f all r id h =
    let one = has_from_any (λ (side : Fork × List Span). has_low side.1 r id) walk h in
    let there = (All-contains (IsEntryInRange fork_cmp low high m) walk one.0 all (contains_from_has walk one.0 one.1)).1 in
    let among : is_among (side_at one.0.0 m.entries) r id ≡ true = ap (λ s. is_among s r id) there ∙ one.2 in
    ap (λ g. is_among (side_at g m.entries) r id) (sym (tied_forks one.0.0 (fork_of r) (f.placed one.0.0 r id among))) ∙ among

-- a registered range that contains the key is at a fork that is walked
pub registered_is_walked : (sides walk : Sides) (key : Text) (first last : Fork) (shared : ℕ) → first.beginning ≡ take shared key → first.next ≡ next_at shared key → last.beginning ≡ take shared key ++ 0 ∷ [] →
    walk ≡ filter (λ (side : Fork × List Span). range_contains fork_cmp (Included first) (Excluded last) side.0) sides →
    (r : Range) (id : ℕ) → is_registered_at shared sides r id ≡ true → within r key ≡ true → is_at_some walk r id ≡ true
registered_is_walked sides walk key first last shared e f g w r id h inside =
    let test : Fork × List Span → Bool = λ (side : Fork × List Span). range_contains fork_cmp (Included first) (Excluded last) side.0 in
    let parts = and_parts (is_registered sides r id) (shared_len r.low r.high == shared) h in
    let one = found_in (fork_of r) sides r id parts.0 in
    let is = tied_forks (fork_of r) one.0.0 one.2 in
    let walks = subst (λ (x : Fork). range_contains fork_cmp (Included first) (Excluded last) x ≡ true) is (range_in_window key r first last shared (eqb-true (shared_len r.low r.high) shared parts.1) e f g inside) in
    subst (λ (ss : Sides). is_at_some ss r id ≡ true) (sym w) (any_from_has (λ (side : Fork × List Span). has_low side.1 r id) (filter test sides) one.0 (has_filtered test sides one.0 walks one.1) one.3)

-- ---- one length after another

shared_within : (low high : Text) → shared_len low high ≤ length high
shared_within [] high = omega arith
shared_within (b ∷ bs) [] = omega arith
shared_within (b ∷ bs) (c ∷ cs) = let h = shared_within bs cs in (elim (b == c) as (λ t. cond t (shared_len bs cs + 1) 0 ≤ length (c ∷ cs)) [ true ↦ omega arith | false ↦ omega arith ])

-- some lengths are left, each at most the key's; what was found so far is registered; of the registered ranges that contain the key those whose length is not left were found
pub record IsSearching (sides : Sides) (rest : List ℕ) (key : Text) (old now : BTreeSet ℕ) : Type 0 where
  pub short : (n : ℕ) → has_id rest n ≡ true → n ≤ length key
  pub finds : FindsHolders (is_registered sides) key old now
  pub left : (r : Range) (id : ℕ) → is_registered sides r id ≡ true → within r key ≡ true → (contains nat_cmp now id ≡ true) ⊎ (has_id rest (shared_len r.low r.high) ≡ true)

present : (o : Option (List Span)) (r : Range) (id : ℕ) → is_among o r id ≡ true → is_some o ≡ true
present None r id h = absurd (false≢true h)
present (Some ss) r id h = refl

up_to_test : (n m : ℕ) → not (is_lt (nat_cmp m n)) ≡ true → n ≤ m
up_to_test n m = (elim (nat_cmp m n) as (λ w. MatchOrdering w (m < n) (m ≡ n) (n < m) → not (is_lt w) ≡ true → n ≤ m) [
  | Less ↦ λ e h. absurd (false≢true h)
  | Equal ↦ λ e h. omega arith
  | Greater ↦ λ e h. omega arith
]) (ranks m n)

to_up_test : (n m : ℕ) → n ≤ m → not (is_lt (nat_cmp m n)) ≡ true
to_up_test n m h = (elim (nat_cmp m n) as (λ w. MatchOrdering w (m < n) (m ≡ n) (n < m) → not (is_lt w) ≡ true) [
  | Less ↦ λ e. absurd (omega arith)
  | Equal ↦ λ e. refl
  | Greater ↦ λ e. refl
]) (ranks m n)

pub searching_begins : (sides : Sides) (lengths : BTreeSet ℕ) (rest : List ℕ) (key : Text) (long : ℕ) (now : BTreeSet ℕ) → AreForks lengths sides → long ≡ length key →
    rest ≡ filter (range_contains nat_cmp Unbounded (Included long)) lengths.keys → IsSearching sides rest key now now
searching_begins sides lengths rest key long now f e w = record {
  short = λ n h.
      let one = has_from_any (λ x. n == x) rest h in
      let there = has_filter (range_contains nat_cmp Unbounded (Included long)) lengths.keys one.0 (subst (λ (ns : List ℕ). Has ns one.0) w one.1) in
      let is : n ≡ one.0 = eqb-true n one.0 one.2 in
      let le : one.0 ≤ long = up_to_test one.0 long there.0 in
      omega arith;
  finds = finds_none (is_registered sides) key now;
  left = λ r id h inside.
      let parts = and_parts (is_le (text_cmp r.low key)) (is_lt (text_cmp key r.high)) inside in
      let n = shared_len r.low r.high in
      let goes = goes_on r.low r.high key parts.0 parts.1 in
      let size : length (take n r.high) ≡ n = omega (arith, length-take n r.high, shared_within r.low r.high) in
      let known : contains nat_cmp lengths n ≡ true = ap (contains nat_cmp lengths) (sym size) ∙ f.known (fork_of r) (present (side_at (fork_of r) sides) r id h) in
      let one = has_from_any (is_at (nat_cmp n)) lengths.keys known in
      let is : n ≡ one.0 = eqb-true n one.0 (sym (unsigned_tied n one.0) ∙ one.2) in
      let long_enough : n ≤ long = let g = goes.long in omega arith in
      inr (subst (λ (ns : List ℕ). has_id ns n ≡ true) (sym w) (any_from_has (λ x. n == x) (filter (range_contains nat_cmp Unbounded (Included long)) lengths.keys) one.0
      (has_filtered (range_contains nat_cmp Unbounded (Included long)) lengths.keys one.0 (subst (λ m. range_contains nat_cmp Unbounded (Included long) m ≡ true) is (to_up_test n long long_enough)) one.1) (eq-eqb n one.0 is)));
}

pub searching_is_short : (sides : Sides) (all : List ℕ) (n : ℕ) (rest : List ℕ) (key : Text) (old now : BTreeSet ℕ) → IsSearching sides all key old now → all ≡ n ∷ rest → n ≤ length key
searching_is_short sides all n rest key old now s e = s.short n (ap (λ ns. has_id ns n) e ∙ or_left (n == n) (has_id rest n) (eq-eqb n n refl))

pub searching_goes : (sides : Sides) (all : List ℕ) (n : ℕ) (rest : List ℕ) (key : Text) (old now new : BTreeSet ℕ) → IsSearching sides all key old now → all ≡ n ∷ rest →
    FindsHolders (is_registered sides) key now new → AllFound (is_registered_at n sides) key new → IsSearching sides rest key old new
searching_goes sides all n rest key old now new s e finds each = record {
  short = λ m h. s.short m (ap (λ ns. has_id ns m) e ∙ or_right (m == n) (has_id rest m) h);
  finds = finds_trans (is_registered sides) (is_registered sides) key old now new (λ r id h. h) s.finds finds;
  left = λ r id h inside. elim (s.left r id h inside) [
    | inl there ↦ inl (finds.kept id there)
    | inr more ↦ elim (or_cases (shared_len r.low r.high == n) (has_id rest (shared_len r.low r.high)) (sym (ap (λ ns. has_id ns (shared_len r.low r.high)) e) ∙ more)) [
      | inl here ↦ inl (each r id (and_from (is_registered sides r id) (shared_len r.low r.high == n) h here) inside)
      | inr later ↦ inr later
    ]
  ];
}

pub searching_ends : (sides : Sides) (rest : List ℕ) (key : Text) (old now : BTreeSet ℕ) → IsSearching sides rest key old now → rest ≡ [] → AllFound (is_registered sides) key now
searching_ends sides rest key old now s e = λ r id h inside. elim (s.left r id h inside) [
  | inl there ↦ there
  | inr none ↦ absurd (false≢true (sym (ap (λ ns. has_id ns (shared_len r.low r.high)) e) ∙ none))
]
