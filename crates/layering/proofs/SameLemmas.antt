-- What is the same at all positions between two.
use Rattle.std.proofs.Common.{◌≡◌, ◌<◌, ◌≤◌, ◌+◌, ℕ, suc, true, false, max, List, [], ◌∷◌, take, refl, sym, ap, ◌∙◌, ⊎_elim, arith}
use Rattle.std.specs.List.{AllByRecursion}
use Rattle.std.specs.Option.{option_or}
use Rattle.std.proofs.lemmas.Bool.{cases_lt}
use Rattle.std.proofs.lemmas.List.{take-take}
use Rattle.semantics.specs.Texts.{Text, Table, value_at, is_range, Range, within}
use Rattle.semantics.specs.Joins.{is_join}
use Rattle.semantics.specs.Histories.{History, DeclaredJoin, joins_of, base_of}
use Rattle.semantics.specs.Outputs.{out}
use Rattle.semantics.specs.States.{of_rank, merged, below}
use Rattle.semantics.proofs.MergedLemmas.{value_at-merged}
use Rattle.semantics.proofs.GatherLemmas.{ascending-out}
use Rattle.semantics.proofs.StateLemmas.{added, below-suc, value_at-out_none}
use Rattle.key_ranges.specs.Containing.{bind_range}
use Rattle.growing_history.specs.Entered.{HasEntered}
use Rattle.growing_history.specs.Changes.{Same}
use Rattle.growing_history.proofs.EnteredLemmas.{declares_joins, has_entered_taken}
use Rattle.growing_history.proofs.ElementLemmas.{has_of_all}
use Rattle.layering.specs.Reached.{reaches}
use Rattle.layering.specs.Standing.{SameOutput}
use Rattle.layering.specs.SameLaws.{SameBelowNext, SameBelowNextWithin, SameWhereBare, SameThrough}
use Rattle.layering.proofs.ListLemmas.{all_from_filter, none_from_test}
use Rattle.layering.proofs.ReachLemmas.{unreached_fits_not}
use Rattle.layering.proofs.LayerLemmas.{rank_joins}
use Rattle.growing_history.proofs.UnchangedLemmas.{bare_at}

-- ---- below the next rank

-- at a key the joins make the same of two tables
abbrev MakeSame : Text → Table → Table → List DeclaredJoin → Type 0
MakeSame key source other joins = AllByRecursion (λ s. value_at key (out s.join source) ≡ value_at key (out s.join other)) joins

-- tables with the same at a key have it with the same outputs added
same_added : (key : Text) (joins : List DeclaredJoin) (source other table more : Table) → value_at key table ≡ value_at key more → MakeSame key source other joins → value_at key (added joins source table) ≡ value_at key (added joins other more)
same_added key [] source other table more e all = e
same_added key (s ∷ joins) source other table more e all =
    same_added key joins source other (merged table (out s.join source)) (merged more (out s.join other))
    (value_at-merged key table (out s.join source) (ascending-out s.join source)
    ∙ (λ i. option_or (all.0 i) (e i))
    ∙ sym (value_at-merged key more (out s.join other) (ascending-out s.join other)))
    all.1

-- what is the same at all positions is so at one
outputs_at : (h : History) (q p r x : ℕ) (key : Text) (joins : List DeclaredJoin) → q ≤ x → x ≤ p → AllByRecursion (λ s. SameOutput h q p r key s.join) joins → MakeSame key (below (take x h) r) (below (take q h) r) joins
outputs_at h q p r x key [] from to all = tt
outputs_at h q p r x key (s ∷ joins) from to all = (all.0 x from to, outputs_at h q p r x key joins from to all.1)

-- the same stands below the next rank
pub same_below_next : SameBelowNext
same_below_next h q p r key stay same outputs x from to =
    let next : r + 1 ≡ suc r = omega arith in
    let joins = of_rank r (joins_of (take q h)) in
    ap (λ n. value_at key (below (take x h) n)) next
    ∙ ap (value_at key) (below-suc (take x h) r)
    ∙ ap (λ js. value_at key (added (of_rank r js) (below (take x h) r) (below (take x h) r))) (stay x from to)
    ∙ same_added key joins (below (take x h) r) (below (take q h) r) (below (take x h) r) (below (take q h) r) (same x from to) (outputs_at h q p r x key joins from to outputs)
    ∙ ap (value_at key) (sym (below-suc (take q h) r))
    ∙ ap (λ n. value_at key (below (take q h) n)) (sym next)

-- a join that the range does not reach makes nothing at its keys
unreached_same : (h : History) (q p r : ℕ) (range : Range) (key : Text) (s : DeclaredJoin) → is_join s.join ≡ true → is_range range.low range.high ≡ true → within range key ≡ true → reaches range s ≡ false → SameOutput h q p r key s.join
unreached_same h q p r range key s ok is inside none x from to =
    let unfit = unreached_fits_not s.join range key ok is (none_from_test (bind_range s.join.output range) none) inside in
    value_at-out_none s.join (below (take x h) r) key ok unfit ∙ sym (value_at-out_none s.join (below (take q h) r) key ok unfit)

-- so it is enough to ask those that it reaches
pub same_below_next_within : SameBelowNextWithin
same_below_next_within h q p r range key entered is inside stay same outputs =
    let joins = of_rank r (joins_of (take q h)) in
    let are = rank_joins (take q h) r (declares_joins (take q h) (has_entered_taken q h entered)) in
    same_below_next h q p r key stay same
    (all_from_filter (λ s. SameOutput h q p r key s.join) (reaches range) joins outputs
    (λ s has none. unreached_same h q p r range key s (has_of_all (λ (t : DeclaredJoin). is_join t.join ≡ true) joins s are has) is inside none))

-- ---- where a range is bare throughout

-- what stands below a rank at a key of a bare range is the base pair
pub same_where_bare : SameWhereBare
same_where_bare h q p r rank range key entered is inside bare same x from to =
    let base : (y n : ℕ) → q ≤ y → y ≤ p → value_at key (below (take y h) n) ≡ value_at key (base_of (take y h)) = λ y n up down.
    bare_at (take y h) n range key (declares_joins (take y h) (has_entered_taken y h entered)) is (bare y up down) inside in
    base x rank from to ∙ sym (base x r from to) ∙ same x from to ∙ base q r (omega arith) (omega arith) ∙ sym (base q rank (omega arith) (omega arith))

-- what is the same on both ways is so on the whole way
pub same_through : SameThrough
same_through h q m p r key first next early late x from to =
    ⊎_elim
    (λ (before : x < m). early x from (omega arith))
    (λ past. late x past to ∙ early m first (omega arith))
    (cases_lt x m)
