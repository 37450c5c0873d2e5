-- The state, rank by rank: its keys ascend, and which output or base pair decides the value at a key.
use Rattle.std.proofs.Common.{◌≡◌, ℕ, zero, suc, ◌<◌, ◌≤◌, List, [], ◌∷◌, ◌++◌, fold, true, false, not, slice_get, slice_index, Option, Some, None, is_some, refl, sym, ap, subst, ◌∙◌, ⊎_elim, arith, true≢false}
use Rattle.std.specs.List.{AllByRecursion}
use Rattle.std.specs.Option.{option_or}
use Rattle.std.proofs.lemmas.Bool.{cond-false, cases_lt, false_from_ne_true}
use Rattle.std.proofs.lemmas.List.Sums.{fold-append}
use Rattle.std.proofs.lemmas.Option.{get_or_from_slice_get}
use Rattle.semantics.specs.Texts.{Text, Table, value_at}
use Rattle.semantics.specs.Patterns.{fits}
use Rattle.semantics.specs.Joins.{Join, is_join}
use Rattle.semantics.specs.Histories.{History, DeclaredJoin, joins_of, is_computed, visible}
use Rattle.semantics.specs.Outputs.{out}
use Rattle.semantics.specs.States.{ranks_of, of_rank, merged, with_outputs, below, state, IsAdmissible}
use Rattle.semantics.specs.StateLaws.{DeclaresJoins}
use Rattle.semantics.proofs.TableLemmas.{IsAscending}
use Rattle.semantics.proofs.GatherLemmas.{ascending-out}
use Rattle.semantics.proofs.OutputLemmas.{out_keys_fit}
use Rattle.semantics.proofs.MergedLemmas.{ascending-merged, value_at-merged, value_at-merged_none}
use Rattle.semantics.proofs.BaseLemmas.{ascending-visible, value_at-visible}
use Rattle.semantics.proofs.OfRankLemmas.{all_at, list_any_false_at, list_any_true_at, all_picked, picked_around, rank_at, one_output}

-- ---- outputs added to a table

-- a table with the outputs that joins have over a source
abbrev pub added : List DeclaredJoin → Table → Table → Table
added joins source table = fold (λ t s. merged t (out s.join source)) table joins

-- joins whose output over a source has nothing at a key
abbrev pub AreSilent : Text → Table → List DeclaredJoin → Type 0
AreSilent key source = AllByRecursion (λ s. value_at key (out s.join source) ≡ None)

-- a table with outputs has its keys ascending
pub ascending-added : (joins : List DeclaredJoin) (source table : Table) → IsAscending table → IsAscending (added joins source table)
ascending-added [] source table s = s
ascending-added (j ∷ joins) source table s = ascending-added joins source (merged table (out j.join source)) (ascending-merged table (out j.join source) s)

-- a table with the outputs over it has its keys ascending
pub ascending-with_outputs : (joins : List DeclaredJoin) (table : Table) → IsAscending table → IsAscending (with_outputs joins table)
ascending-with_outputs joins table = ascending-added joins table table

-- a key at which no join makes a pair keeps its value
pub value_at-added_silent : (key : Text) (joins : List DeclaredJoin) (source table : Table) → AreSilent key source joins → value_at key (added joins source table) ≡ value_at key table
value_at-added_silent key [] source table silent = refl
value_at-added_silent key (j ∷ joins) source table silent =
    value_at-added_silent key joins source (merged table (out j.join source)) silent.1
    ∙ value_at-merged_none key table (out j.join source) silent.0

-- a key at which no join of a list makes a pair keeps its value through the list's outputs
pub value_at-with_outputs_silent : (key : Text) (joins : List DeclaredJoin) (table : Table) → AreSilent key table joins → value_at key (with_outputs joins table) ≡ value_at key table
value_at-with_outputs_silent key joins table = value_at-added_silent key joins table table

-- where one join of a list alone makes a pair at a key, its output decides, else the table
pub value_at-with_outputs_one : (key : Text) (before : List DeclaredJoin) (s : DeclaredJoin) (after : List DeclaredJoin) (table : Table) →
    AreSilent key table before → AreSilent key table after →
    value_at key (with_outputs (before ++ s ∷ after) table) ≡ option_or (value_at key (out s.join table)) (value_at key table)
value_at-with_outputs_one key before s after table earlier later =
    ap (value_at key) (fold-append (λ (t : Table) (x : DeclaredJoin). merged t (out x.join table)) table before (s ∷ after))
    ∙ value_at-added_silent key after table (merged (added before table table) (out s.join table)) later
    ∙ value_at-merged key (added before table table) (out s.join table) (ascending-out s.join table)
    ∙ ap (option_or (value_at key (out s.join table))) (value_at-added_silent key before table table earlier)

-- ---- below a rank

-- below rank 0 is what is visible
pub below-zero : (h : History) → below h 0 ≡ visible h
unfolding below
below-zero h = refl

-- below the next rank the outputs of a rank are added
pub below-suc : (h : History) (r : ℕ) → below h (suc r) ≡ with_outputs (of_rank r (joins_of h)) (below h r)
unfolding below
below-suc h r = refl

-- the state is what is below rank 8
pub state-below : (h : History) → state h ≡ below h 8
unfolding state
state-below h = refl

-- the keys below a rank ascend
pub ascending-below : (h : History) (r : ℕ) → IsAscending (below h r)
ascending-below h zero = subst IsAscending (sym (below-zero h)) (ascending-visible h)
ascending-below h (suc r) =
    subst IsAscending (sym (below-suc h r)) (ascending-with_outputs (of_rank r (joins_of h)) (below h r) (ascending-below h r))

-- the keys of the state ascend
pub ascending-state : (h : History) → IsAscending (state h)
ascending-state h = subst IsAscending (sym (state-below h)) (ascending-below h 8)

-- ---- the value at a key

-- a join makes no pair at a key that does not fit its output
pub value_at-out_none : (j : Join) (table : Table) (key : Text) → is_join j ≡ true → fits j.output key ≡ false → value_at key (out j table) ≡ None
value_at-out_none j table key is unfit = by (value_at key (out j table)) refl
  where
    by : (o : Option Text) → value_at key (out j table) ≡ o → o ≡ None
    by None e = refl
    by (Some v) e = absurd (true≢false (sym (out_keys_fit j table key is (ap is_some e)) ∙ unfit))

-- joins whose outputs a key does not fit
abbrev pub AreUnfit : Text → List DeclaredJoin → Type 0
AreUnfit key = AllByRecursion (λ s. fits s.join.output key ≡ false)

-- joins whose outputs a key does not fit make nothing there
silent_from_unfit : (key : Text) (source : Table) (joins : List DeclaredJoin) → AllByRecursion (λ s. is_join s.join ≡ true) joins → AreUnfit key joins → AreSilent key source joins
silent_from_unfit key source [] are unfit = tt
silent_from_unfit key source (s ∷ joins) are unfit =
    (value_at-out_none s.join source key are.0 unfit.0, silent_from_unfit key source joins are.1 unfit.1)

-- a key that fits no output of a list of joins keeps its value through the list's outputs
pub value_at-with_outputs_unfit : (key : Text) (joins : List DeclaredJoin) (table : Table) → AllByRecursion (λ s. is_join s.join ≡ true) joins → AreUnfit key joins →
    value_at key (with_outputs joins table) ≡ value_at key table
value_at-with_outputs_unfit key joins table are unfit = value_at-with_outputs_silent key joins table (silent_from_unfit key table joins are unfit)

-- at a key that fits no output of a rank, nothing changes through the rank
pub value_at-below_silent : (h : History) (r : ℕ) (key : Text) → DeclaresJoins h →
    ((i : ℕ) (s : DeclaredJoin) → slice_get (ranks_of (joins_of h)) i ≡ Some r → slice_get (joins_of h) i ≡ Some s → fits s.join.output key ≡ false) →
    value_at key (below h (suc r)) ≡ value_at key (below h r)
value_at-below_silent h r key declares unfit =
    ap (value_at key) (below-suc h r)
    ∙ value_at-with_outputs_silent key (of_rank r (joins_of h)) (below h r)
    (all_picked (λ s. value_at key (out s.join (below h r)) ≡ None) r (ranks_of (joins_of h)) (joins_of h)
    (λ i s beside at. value_at-out_none s.join (below h r) key (all_at (λ t. is_join t.join ≡ true) (joins_of h) i s declares at) (unfit i s beside at)))

-- at a key that fits no output, what is below each rank is what is visible
pub value_at-below_elsewhere : (h : History) (r : ℕ) (key : Text) → DeclaresJoins h → is_computed (joins_of h) key ≡ false →
    value_at key (below h r) ≡ value_at key (visible h)
value_at-below_elsewhere h zero key declares unfit = ap (value_at key) (below-zero h)
value_at-below_elsewhere h (suc r) key declares unfit =
    value_at-below_silent h r key declares (λ i s beside at. list_any_false_at (λ t. fits t.join.output key) (joins_of h) i s unfit at)
    ∙ value_at-below_elsewhere h r key declares unfit

-- the place of a join that stands, with a key of its output, after a history whose set of joins may stand
pub record IsOutputKey (h : History) (i : ℕ) (s : DeclaredJoin) (key : Text) : Type 0 where
  pub admissible : IsAdmissible (joins_of h)
  pub declares : DeclaresJoins h
  pub stands : slice_get (joins_of h) i ≡ Some s
  pub fit : fits s.join.output key ≡ true

-- the rank of a join that stands
abbrev pub rank_of : History → ℕ → ℕ
rank_of h i = slice_index (ranks_of (joins_of h)) i

-- a rank is at most 7
pub rank_of-le : (h : History) (i : ℕ) (s : DeclaredJoin) (key : Text) → IsOutputKey h i s key → rank_of h i ≤ 7
rank_of-le h i s key o = all_at (λ r. r ≤ 7) (ranks_of (joins_of h)) i (rank_of h i) o.admissible.shallow (rank_at (joins_of h) i s o.stands)

-- no other join's output has the key
others_unfit : (h : History) (i : ℕ) (s : DeclaredJoin) (key : Text) → IsOutputKey h i s key →
    (k : ℕ) (t : DeclaredJoin) → (k ≡ i → ⊥) → slice_get (joins_of h) k ≡ Some t → fits t.join.output key ≡ false
others_unfit h i s key o k t apart at =
    false_from_ne_true _ (λ e. apart (one_output (joins_of h) k i t s key o.admissible.apart at o.stands e o.fit))

-- nothing changes at the key through another rank
value_at-below_other : (h : History) (r i : ℕ) (s : DeclaredJoin) (key : Text) → IsOutputKey h i s key → (rank_of h i ≡ r → ⊥) →
    value_at key (below h (suc r)) ≡ value_at key (below h r)
value_at-below_other h r i s key o other =
    value_at-below_silent h r key o.declares
    (λ k t beside at. others_unfit h i s key o k t
    (λ e. other (subst (λ n. slice_index (ranks_of (joins_of h)) n ≡ r) e (get_or_from_slice_get (ranks_of (joins_of h)) k r 0 beside))) at)

-- up to a join's rank there is nothing at the keys of its output
pub value_at-below_before : (h : History) (r i : ℕ) (s : DeclaredJoin) (key : Text) → IsOutputKey h i s key → r ≤ rank_of h i →
    value_at key (below h r) ≡ None
value_at-below_before h zero i s key o up_to =
    ap (value_at key) (below-zero h) ∙ value_at-visible key h
    ∙ cond-false _ _ _ (ap not (list_any_true_at (λ t. fits t.join.output key) (joins_of h) i s o.stands o.fit))
value_at-below_before h (suc r) i s key o up_to =
    value_at-below_other h r i s key o (λ e. absurd (omega arith))
    ∙ value_at-below_before h r i s key o (omega arith)

-- next above a join's rank its output decides at its keys
pub value_at-below_own : (h : History) (i : ℕ) (s : DeclaredJoin) (key : Text) → IsOutputKey h i s key →
    value_at key (below h (suc (rank_of h i))) ≡ value_at key (out s.join (below h (rank_of h i)))
value_at-below_own h i s key o =
    let r = rank_of h i in
    let around = picked_around (λ t. value_at key (out t.join (below h r)) ≡ None) r (ranks_of (joins_of h)) (joins_of h) i s (rank_at (joins_of h) i s o.stands) o.stands
    (λ k t apart beside at. value_at-out_none t.join (below h r) key (all_at (λ x. is_join x.join ≡ true) (joins_of h) k t o.declares at) (others_unfit h i s key o k t apart at)) in
    ap (value_at key) (below-suc h r)
    ∙ ap (λ ss. value_at key (with_outputs ss (below h r))) around.split
    ∙ value_at-with_outputs_one key around.before s around.after (below h r) around.earlier around.later
    ∙ ap (option_or (value_at key (out s.join (below h r)))) (value_at-below_before h r i s key o (omega arith))
    ∙ or_none (value_at key (out s.join (below h r)))
  where
    or_none : (x : Option Text) → option_or x None ≡ x
    or_none None = refl
    or_none (Some v) = refl

-- above a join's rank the value at a key of its output stays what the join makes there
pub value_at-below_above : (h : History) (r i : ℕ) (s : DeclaredJoin) (key : Text) → IsOutputKey h i s key → rank_of h i < r →
    value_at key (below h r) ≡ value_at key (out s.join (below h (rank_of h i)))
value_at-below_above h zero i s key o above = absurd (omega arith)
value_at-below_above h (suc r) i s key o above =
    ⊎_elim
    (λ l. value_at-below_other h r i s key o (λ e. absurd (omega arith)) ∙ value_at-below_above h r i s key o l)
    (λ l. let e : r ≡ rank_of h i = omega arith in ap (λ n. value_at key (below h (suc n))) e ∙ value_at-below_own h i s key o)
    (cases_lt (rank_of h i) r)

-- at a key that fits an output, the state is what that join makes over the state below its rank
pub value_at-state_output : (h : History) (i : ℕ) (s : DeclaredJoin) (key : Text) → IsOutputKey h i s key →
    value_at key (state h) ≡ value_at key (out s.join (below h (rank_of h i)))
value_at-state_output h i s key o =
    ap (value_at key) (state-below h) ∙ value_at-below_above h 8 i s key o (let b = rank_of-le h i s key o in omega arith)

-- what the state has at a key of an output stands below each rank above the join's
pub value_at-below_is_state : (h : History) (r i : ℕ) (s : DeclaredJoin) (key : Text) → IsOutputKey h i s key → rank_of h i < r →
    value_at key (below h r) ≡ value_at key (state h)
value_at-below_is_state h r i s key o above = value_at-below_above h r i s key o above ∙ sym (value_at-state_output h i s key o)

-- at every other key it is what is visible
pub value_at-state_elsewhere : (h : History) (key : Text) → DeclaresJoins h → is_computed (joins_of h) key ≡ false →
    value_at key (state h) ≡ value_at key (visible h)
value_at-state_elsewhere h key declares unfit = ap (value_at key) (state-below h) ∙ value_at-below_elsewhere h 8 key declares unfit
