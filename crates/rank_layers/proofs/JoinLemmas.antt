-- What joins of one rank give in a range, and what reading it costs.
use Rattle.std.proofs.Common.{◌≡◌, ℕ, zero, suc, ◌+◌, ◌-◌, ◌<◌, ◌≤◌, List, [], ◌∷◌, ◌++◌, flat_map, get_or, length, map, take, slice_get, Ordering, Less, Equal, Greater, true, Contains, Some, Result, Ok, Err, IfOk, refl, sym, ap, ◌∙◌, subst, arith}
use Rattle.std.proofs.lemmas.List.{take_more}
use Rattle.std.proofs.lemmas.List.Folds.{flat_map-map}
use Rattle.std.proofs.lemmas.List.Sums.{fold-append}
use Rattle.std.specs.FinMap.Entries.{by_order}
use Rattle.std.proofs.lemmas.Option.{slice_get_within, get_or_from_slice_get}
use Rattle.semantics.specs.Texts.{Text, text_cmp, Table, with_pair, Range, pairs_within}
use Rattle.semantics.specs.Joins.{Join}
use Rattle.semantics.specs.Histories.{History, IsPrefix, DeclaredJoin, joins_of}
use Rattle.semantics.specs.Outputs.{out}
use Rattle.semantics.specs.States.{below, merged}
use Rattle.semantics.proofs.GatherLemmas.{ascending-out}
use Rattle.semantics.proofs.MemberLemmas.{contains_from_has}
use Rattle.semantics.proofs.MergedLemmas.{ascending-pairs_within}
use Rattle.growing_history.proofs.PrefixLemmas.{take_prefix}
use Rattle.layering.specs.Merging.{Ascends}
use Rattle.layering.specs.Reached.{reached, reaches, with_parts, part_of}
use Rattle.layering.specs.Parts.{JoinTo}
use Rattle.layering.proofs.PartLemmas.{parts_make_range}
use Rattle.layering.proofs.ReachLemmas.{reached_stand}
use Rattle.kept_ranges.proofs.PathLemmas.{has_from_at}
use Rattle.cell_slots.specs.Slots.{IsDeclared, IsOutput, StandsAs}
use Rattle.cell_slots.specs.Spending.{JoinsSpend}
use Rattle.cell_slots.proofs.DeclaredLemmas.{declared_once, stands_as, stands_over}
use Rattle.cell_slots.specs.Gaps.{GiveSame}

-- ---- parts of a range, each of which is a thing with a range

-- what a join gives in parts that join to a range is what it gives in the range
pub parts_output : {A : Type 0} (f : A → Range) (range : Range) (parts : List A) (j : Join) (table : Table) → JoinTo range (map f parts) →
    flat_map (λ part. pairs_within (f part) (out j table)) parts ≡ pairs_within range (out j table)
parts_output f range parts j table joins =
    sym (flat_map-map (λ r. pairs_within r (out j table)) f parts) ∙ parts_make_range range (map f parts) (out j table) (ascending-out j table) joins

-- what a join gives in a range ascends
pub part_ascends : (range : Range) (j : Join) (table : Table) (pairs : Table) → pairs ≡ pairs_within range (out j table) → Ascends pairs
part_ascends range j table pairs is = subst Ascends (sym is) (ascending-pairs_within range (out j table) (ascending-out j table))

-- an output over a longer history is one over the history
pub output_over : (h more : History) (p at rank : ℕ) (range : Range) (pairs : Table) → p ≤ length h → IsPrefix h more → IsOutput more p at rank range pairs → IsOutput h p at rank range pairs
output_over h more p at rank range pairs less prefix is = λ j stands.
    is j (stands_over h more p at rank j less prefix stands) ∙ ap (λ l. pairs_within range (out j (below l rank))) (take_prefix p h more less prefix)

-- what the join that was declared at a position gives over a longer history, in a range in which it gives the same as in the part that is asked for
pub output_alone : (h more : History) (p at rank : ℕ) (range part : Range) (k : Join) (pairs : Table) → p ≤ length h → IsPrefix h more → IsDeclared h at k → GiveSame k part range →
    pairs ≡ pairs_within range (out k (below (take p more) rank)) → IsOutput h p at rank part pairs
output_alone h more p at rank range part k pairs less prefix declared same is = λ j stands.
    is ∙ same (below (take p more) rank) ∙ (λ i. pairs_within part (out (declared_once h at k j declared stands.declared i) (below (take_prefix p h more less prefix i) rank)))

-- ---- the cost of one join

-- what one join costs, by the parts that it was read in
pub cost_of_join : {P V E : Type 0} (items : V → Table) (r : Result V E) (covered : List P → Type 0) (took : P → ℕ → Type 0) (cost : Type 0) (parts : List P) (n : ℕ) →
    covered parts → ((part : P) → parts ≡ part ∷ [] → IfOk r (λ v. took part (length (items v)))) → IfOk r (λ v. length (items v) ≡ n) →
    ((part : P) → covered (part ∷ []) → took part n → cost) → ((length parts ≡ 1 → ⊥) → covered parts → cost) → IfOk r (λ _. cost)
cost_of_join items (Err e) covered took cost parts n is part rows one other = tt
cost_of_join items (Ok v) covered took cost [] n is part rows one other = other (λ e. omega (arith, e)) is
cost_of_join items (Ok v) covered took cost (x ∷ []) n is part rows one other = one x is (subst (took x) rows (part x refl))
cost_of_join items (Ok v) covered took cost (x ∷ y ∷ more) n is part rows one other = other (λ e. omega (arith, e)) is

-- ---- the joins of a history by their positions

-- a join of a rank that a range reaches stands so
pub reached_stands : (h : History) (p : ℕ) (range : Range) (rank : ℕ) (s : DeclaredJoin) → Contains (reached range rank (joins_of (take p h))) s → StandsAs h p s.position rank s.join
reached_stands h p range rank s has = stands_as h p rank s ((reached_stand (joins_of (take p h)) range rank s).0 has).0

-- ---- one join after another

-- with one more part
pub with_parts_more : (range : Range) (joins : List DeclaredJoin) (table pairs : Table) (i : ℕ) (s : DeclaredJoin) → slice_get joins i ≡ Some s →
    with_parts range (take (i + 1) joins) table pairs ≡ merged (with_parts range (take i joins) table pairs) (part_of range table s)
with_parts_more range joins table pairs i s is =
    ap (λ js. with_parts range js table pairs) (take_more joins i s (slice_get_within joins i s is) ∙ ap (λ x. take i joins ++ x ∷ []) (get_or_from_slice_get joins i s s is))
    ∙ fold-append (λ t x. merged t (part_of range table x)) pairs (take i joins) (s ∷ [])

spend_cases : {S : Type 0} (one : S → S → ℕ → Join → ℕ → Type 0) (a b c : S) (joins : List DeclaredJoin) (s : DeclaredJoin) (n m k : ℕ) → k ≡ n + m →
    JoinsSpend one a b joins n → one b c s.position s.join m → JoinsSpend one a c (joins ++ s ∷ []) k
spend_cases one a b c [] s n m k sum before spent =
    let same : m ≡ k = omega (arith, sum, before.0) in
    subst (λ x. one a c s.position s.join x) same (subst (λ x. one x c s.position s.join m) before.1 spent)
spend_cases one a b c (t ∷ []) s n m k sum before spent = tt
spend_cases one a b c (t ∷ u ∷ more) s n m k sum before spent = tt

-- the cost of one join more
pub joins_spend_more : {S : Type 0} (one : S → S → ℕ → Join → ℕ → Type 0) (a b c : S) (joins : List DeclaredJoin) (i : ℕ) (s : DeclaredJoin) (n m k : ℕ) → k ≡ n + m → slice_get joins i ≡ Some s →
    JoinsSpend one a b (take i joins) n → one b c s.position s.join m → JoinsSpend one a c (take (i + 1) joins) k
joins_spend_more one a b c joins i s n m k sum is before spent =
    subst (λ js. JoinsSpend one a c js k) (sym (take_more joins i s (slice_get_within joins i s is) ∙ ap (λ x. take i joins ++ x ∷ []) (get_or_from_slice_get joins i s s is)))
    (spend_cases one a b c (take i joins) s n m k sum before spent)

fewer_by : (o : Ordering) (key value : Text) (e : Text × Text) (es rest : Table) → length rest ≤ length es + 1 →
    length (by_order o ((key, value) ∷ e ∷ es) ((e.0, value) ∷ es) (e ∷ rest)) ≤ length (e ∷ es) + 1
fewer_by Less key value e es rest h = omega arith
fewer_by Equal key value e es rest h = omega arith
fewer_by Greater key value e es rest h = omega (arith, h)

put_fewer : (key value : Text) (table : Table) → length (with_pair key value table) ≤ length table + 1
put_fewer key value [] = omega arith
put_fewer key value (e ∷ es) = fewer_by (text_cmp key e.0) key value e es (with_pair key value es) (put_fewer key value es)

-- a merge has at most as many pairs as both tables
pub merged_fewer : (table pairs : Table) → length (merged table pairs) ≤ length table + length pairs
merged_fewer table [] = omega arith
merged_fewer table (pair ∷ pairs) = let more = merged_fewer (with_pair pair.0 pair.1 table) pairs in let one = put_fewer pair.0 pair.1 table in omega (arith, more, one)

-- the join at a place of a list that names joins by their positions
pub join_at_place : (joins : List DeclaredJoin) (ats : List ℕ) (i d : ℕ) → ats ≡ map (λ s. s.position) joins → i < length ats → (s : DeclaredJoin) × (slice_get joins i ≡ Some s) × (get_or ats i d ≡ s.position)
join_at_place joins ats i d is less =
    let w = place_in joins i d (subst (λ xs. i < length xs) is less) in
    (w.0, w.1, ap (λ xs. get_or xs i d) is ∙ w.2)
  where
    place_in : (js : List DeclaredJoin) (k e : ℕ) → k < length (map (λ s. s.position) js) → (s : DeclaredJoin) × (slice_get js k ≡ Some s) × (get_or (map (λ s. s.position) js) k e ≡ s.position)
    place_in [] k e h = absurd (omega arith)
    place_in (j ∷ js) zero e h = (j, refl, refl)
    place_in (j ∷ js) (suc k) e h = place_in js k e (omega arith)

-- ---- what a clause says where a call succeeds

-- what holds for each thing of a kind holds for all
pub ok_for_all : {A E X : Type 0} (r : Result A E) (S P : X → Type 0) → ((x : X) → S x → IfOk r (λ _. P x)) → IfOk r (λ _. (x : X) → S x → P x)
ok_for_all (Ok a) S P f = f
ok_for_all (Err e) S P f = tt

-- ---- the joins that a list names

-- the join at a place of the list of the joins of a rank that a range reaches stands so
pub listed_stands : (h : History) (p : ℕ) (range : Range) (rank : ℕ) (ats : List ℕ) (i : ℕ) → p ≤ length h → ats ≡ map (λ s. s.position) (reached range rank (joins_of (take p h))) → i < length ats →
    (s : DeclaredJoin) × (slice_get (reached range rank (joins_of (take p h))) i ≡ Some s) × StandsAs h p (get_or ats i 0) rank s.join × (get_or ats i 0 ≡ s.position) × (reaches range s ≡ true)
listed_stands h p range rank ats i less is place =
    let w = join_at_place (reached range rank (joins_of (take p h))) ats i 0 is place in (
      w.0,
      w.1,
      subst (λ at. StandsAs h p at rank w.0.join) (sym w.2) (reached_stands h p range rank w.0 (contains_place (reached range rank (joins_of (take p h))) i w.0 w.1)),
      w.2,
      ((reached_stand (joins_of (take p h)) range rank w.0).0 (contains_place (reached range rank (joins_of (take p h))) i w.0 w.1)).1,
    )
  where
    contains_place : (xs : List DeclaredJoin) (k : ℕ) (x : DeclaredJoin) → slice_get xs k ≡ Some x → Contains xs x
    contains_place xs k x at = contains_from_has xs x (has_from_at xs k x at)

-- over a longer history they are named by the same positions
pub listed_over : (h more : History) (p rank : ℕ) (range : Range) (ats named : List ℕ) → p ≤ length h → IsPrefix h more → named ≡ ats → ats ≡ map (λ s. s.position) (reached range rank (joins_of (take p h))) →
    named ≡ map (λ s. s.position) (reached range rank (joins_of (take p more)))
listed_over h more p rank range ats named less prefix same listed =
    same ∙ listed ∙ ap (λ l. map (λ s. s.position) (reached range rank (joins_of l))) (sym (take_prefix p h more less prefix))

-- what two facts of a value say together
pub ok_both : {A E : Type 0} (r : Result A E) (P Q S : A → Type 0) → ((a : A) → P a → Q a → S a) → IfOk r P → IfOk r Q → IfOk r S
ok_both (Ok a) P Q S f p q = f a p q
ok_both (Err e) P Q S f p q = tt
