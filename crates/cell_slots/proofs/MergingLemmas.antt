-- Two lists of pairs that are merged pair by pair.
use Rattle.std.proofs.Common.{◌≡◌, ℕ, zero, suc, ◌+◌, ◌<◌, ◌≤◌, [], ◌∷◌, ◌++◌, drop, get_or, length, ◌⊎◌, inl, inr, refl, sym, ap, ◌∙◌, append_assoc, subst, arith, Ordering, Less, Equal, Greater}
use Rattle.std.proofs.lemmas.List.{append-nil, drop_more, drop_all}
use Rattle.semantics.specs.Texts.{Text, text_cmp, Table}
use Rattle.semantics.specs.States.{merged}
use Rattle.semantics.proofs.MergedLemmas.{ascending-tail}
use Rattle.layering.specs.Merging.{Ascends}
use Rattle.layering.specs.MergeLaws.{begins_merged}
use Rattle.layering.proofs.MergeLemmas.{merged_into_nothing}
use Rattle.layering.proofs.StepLemmas.{merged_stepwise}

-- what is left of a table whose keys ascend ascends
pub ascends-drop : (i : ℕ) (table : Table) → Ascends table → Ascends (drop i table)
ascends-drop zero table h = h
ascends-drop (suc i) [] h = h
ascends-drop (suc i) (e ∷ es) h = ascends-drop i es (ascending-tail e es h)

-- the next pair of a merge of what is left of two tables
next_merged : (o : Ordering) (first other : Table) (i k : ℕ) (one two : Text × Text) → Ascends first → Ascends other → i < length first → k < length other →
    one ≡ get_or first i one → two ≡ get_or other k two → text_cmp one.0 two.0 ≡ o →
    merged (drop i first) (drop k other) ≡ begins_merged o one (drop (i + 1) first) two (drop (k + 1) other)
next_merged o first other i k one two h g less below is are e =
    let left : drop i first ≡ one ∷ drop (i + 1) first = drop_more first i one less ∙ ap (λ x. x ∷ drop (i + 1) first) (sym is) in
    let right : drop k other ≡ two ∷ drop (k + 1) other = drop_more other k two below ∙ ap (λ x. x ∷ drop (k + 1) other) (sym are) in
    (λ j. merged (left j) (right j))
    ∙ merged_stepwise one two (drop (i + 1) first) (drop (k + 1) other) (subst_ascends left (ascends-drop i first h)) (subst_ascends right (ascends-drop k other g))
    ∙ ap (λ x. begins_merged x one (drop (i + 1) first) two (drop (k + 1) other)) e
  where
    subst_ascends : {table more : Table} → table ≡ more → Ascends table → Ascends more
    subst_ascends e h = subst Ascends e h

-- a pair more, with what is left
pushed : (all : Table) (pair : Text × Text) (rest now whole : Table) → now ≡ pair ∷ rest → all ++ now ≡ whole → (all ++ pair ∷ []) ++ rest ≡ whole
pushed all pair rest now whole next before = append_assoc all (pair ∷ []) rest ∙ ap (λ t. all ++ t) (sym next) ∙ before

-- the lesser pair is of the first list
pub step_first : (first other all : Table) (i k : ℕ) (one two : Text × Text) → Ascends first → Ascends other → i < length first → k < length other →
    one ≡ get_or first i one → two ≡ get_or other k two → text_cmp one.0 two.0 ≡ Less → all ++ merged (drop i first) (drop k other) ≡ merged first other →
    (all ++ one ∷ []) ++ merged (drop (i + 1) first) (drop k other) ≡ merged first other
step_first first other all i k one two h g less below is are e before =
    let right : drop k other ≡ two ∷ drop (k + 1) other = drop_more other k two below ∙ ap (λ x. x ∷ drop (k + 1) other) (sym are) in
    ap (λ t. (all ++ one ∷ []) ++ merged (drop (i + 1) first) t) right
    ∙ pushed all one (merged (drop (i + 1) first) (two ∷ drop (k + 1) other)) (merged (drop i first) (drop k other)) (merged first other) (next_merged Less first other i k one two h g less below is are e) before

-- it is of the other list
pub step_other : (first other all : Table) (i k : ℕ) (one two : Text × Text) → Ascends first → Ascends other → i < length first → k < length other →
    one ≡ get_or first i one → two ≡ get_or other k two → text_cmp one.0 two.0 ≡ Greater → all ++ merged (drop i first) (drop k other) ≡ merged first other →
    (all ++ two ∷ []) ++ merged (drop i first) (drop (k + 1) other) ≡ merged first other
step_other first other all i k one two h g less below is are e before =
    let left : drop i first ≡ one ∷ drop (i + 1) first = drop_more first i one less ∙ ap (λ x. x ∷ drop (i + 1) first) (sym is) in
    ap (λ t. (all ++ two ∷ []) ++ merged t (drop (k + 1) other)) left
    ∙ pushed all two (merged (one ∷ drop (i + 1) first) (drop (k + 1) other)) (merged (drop i first) (drop k other)) (merged first other) (next_merged Greater first other i k one two h g less below is are e) before

-- both lists have the key
pub step_both : (first other all : Table) (i k : ℕ) (one two : Text × Text) → Ascends first → Ascends other → i < length first → k < length other →
    one ≡ get_or first i one → two ≡ get_or other k two → text_cmp one.0 two.0 ≡ Equal → all ++ merged (drop i first) (drop k other) ≡ merged first other →
    (all ++ two ∷ []) ++ merged (drop (i + 1) first) (drop (k + 1) other) ≡ merged first other
step_both first other all i k one two h g less below is are e before =
    pushed all two (merged (drop (i + 1) first) (drop (k + 1) other)) (merged (drop i first) (drop k other)) (merged first other) (next_merged Equal first other i k one two h g less below is are e) before

-- where nothing is left of one list, the rest of the other comes
pub merged_rest : (first other all : Table) (i k : ℕ) → Ascends first → Ascends other → all ++ merged (drop i first) (drop k other) ≡ merged first other →
    (length first ≤ i) ⊎ (length other ≤ k) → (all ++ drop i first) ++ drop k other ≡ merged first other
merged_rest first other all i k h g before (inl past) =
    let none : drop i first ≡ [] = drop_all i first past in
    ap (λ t. (all ++ t) ++ drop k other) none ∙ ap (λ t. t ++ drop k other) (append-nil all)
    ∙ ap (λ t. all ++ t) (sym (merged_into_nothing (drop k other) (ascends-drop k other g)))
    ∙ ap (λ t. all ++ merged t (drop k other)) (sym none) ∙ before
merged_rest first other all i k h g before (inr past) =
    let none : drop k other ≡ [] = drop_all k other past in
    ap (λ t. (all ++ drop i first) ++ t) none ∙ append-nil (all ++ drop i first)
    ∙ ap (λ t. all ++ merged (drop i first) t) (sym none) ∙ before
