-- What changes in several ranges.
use Rattle.std.proofs.Common.{◌≡◌, ℕ, ◌+◌, ◌<◌, ◌≤◌, List, [], ◌∷◌, ◌++◌, length, take, flat_map, get_or, Result, Ok, Err, IfOk, sym, ap, ◌∙◌, arith}
use Rattle.std.proofs.lemmas.List.{append-nil, take_more}
use Rattle.std.proofs.lemmas.List.Concat.{flat_map-append}
use Rattle.std.proofs.lemmas.List.Sums.{sum_by_more}
use Rattle.semantics.specs.Texts.{Text, Range}
use Rattle.semantics.specs.Histories.{History}
use Rattle.growing_history.specs.Changes.{in_order, changed_keys}
use Rattle.growing_history.proofs.ChangeLemmas.{changed_keys_ascend}
use Rattle.base_shards.specs.Changed.{steps_of_all}
use Rattle.base_shards.specs.Laws.{OneRangeAlone}
use Rattle.base_shards.proofs.OrderLemmas.{in_order-ascending}

-- of one range alone they are its changed keys
pub one_range_alone : OneRangeAlone
one_range_alone q p range h = ap in_order (append-nil (changed_keys q p range h)) ∙ in_order-ascending (changed_keys q p range h) (changed_keys_ascend q p range h)

-- one range more: its changed keys come after those of the others
pub ranges_more : (q p : ℕ) (h : History) (ranges : List Range) (i : ℕ) (range : Range) → i < length ranges → range ≡ get_or ranges i range →
    flat_map (λ r. changed_keys q p r h) (take (i + 1) ranges) ≡ flat_map (λ r. changed_keys q p r h) (take i ranges) ++ changed_keys q p range h
ranges_more q p h ranges i range less is =
    ap (flat_map (λ r. changed_keys q p r h)) (take_more ranges i range less ∙ ap (λ r. take i ranges ++ r ∷ []) (sym is))
    ∙ flat_map-append (λ r. changed_keys q p r h) (take i ranges) (range ∷ [])
    ∙ ap (λ ks. flat_map (λ r. changed_keys q p r h) (take i ranges) ++ ks) (append-nil (changed_keys q p range h))

-- and its steps too
pub steps_more : (q p : ℕ) (h : History) (ranges : List Range) (i : ℕ) (range : Range) → i < length ranges → range ≡ get_or ranges i range →
    steps_of_all q p (take (i + 1) ranges) h ≡ steps_of_all q p (take i ranges) h + (1 + length (changed_keys q p range h))
steps_more q p h ranges i range less is =
    sum_by_more (λ r. 1 + length (changed_keys q p r h)) ranges i range less ∙ ap (λ r. steps_of_all q p (take i ranges) h + (1 + length (changed_keys q p r h))) (sym is)

-- a list of one element
pub only_one : {A : Type 0} (xs : List A) (x : A) → 1 ≤ length xs → length xs < 2 → x ≡ get_or xs 0 x → xs ≡ x ∷ []
only_one [] x some few is = absurd (omega arith)
only_one (y ∷ []) x some few is = ap (λ z. z ∷ []) (sym is)
only_one (y ∷ z ∷ zs) x some few is = absurd (omega arith)

-- keys are counted, and so are the steps
pub counted_keys : {T E : Type 0} (r : Result T E) (items : T → List Text) (keys : List Text) (old new total : ℕ) → total ≡ 1 + length keys → IfOk r (λ v. items v ≡ keys) →
    IfOk r (λ v. new ≡ old + 1 + length (items v)) → IfOk r (λ v. new ≡ old + total)
counted_keys (Ok v) items keys old new total all is cost = let same = ap length is in omega (arith, all, same, cost)
counted_keys (Err e) items keys old new total all is cost = tt

-- the steps for one range alone
pub steps_of_one : (q p : ℕ) (range : Range) (h : History) → steps_of_all q p (range ∷ []) h ≡ 1 + length (changed_keys q p range h)
steps_of_one q p range h = omega arith
