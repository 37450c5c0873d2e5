-- Ranks of which a range reaches one output alone, or none.
use Rattle.std.proofs.Common.{◌≡◌, ◌≤◌, ℕ, false, List, [], ◌∷◌, ◌++◌, filter, slice_get, slice_index, Some, is_some, refl, sym, ap, ◌∙◌, arith}
use Rattle.std.specs.List.{AllByRecursion}
use Rattle.std.proofs.lemmas.Bool.{cond-true}
use Rattle.std.proofs.lemmas.Option.{get_or_from_slice_get}
use Rattle.std.proofs.lemmas.List.Elements.{filter-append}
use Rattle.semantics.specs.Texts.{Range}
use Rattle.semantics.specs.Histories.{DeclaredJoin, joins_of}
use Rattle.semantics.specs.States.{ranks_of, of_rank}
use Rattle.semantics.proofs.AdmissibleSets.{entered_is_admissible_lem}
use Rattle.semantics.proofs.OfRankLemmas.{all_at, all_picked, picked_around, rank_at}
use Rattle.layering.specs.Reached.{reaches, ReachesOne}
use Rattle.layering.specs.ReachLaws.{OneReachedInRank, NoneReachedInOthers, NoneAboveSeven}
use Rattle.layering.proofs.ListLemmas.{filter_none}

-- every other join is not reached
unreached : (joins : List DeclaredJoin) (range : Range) (place : ℕ) (s : DeclaredJoin) → ReachesOne range joins place s → (k : ℕ) (t : DeclaredJoin) → (k ≡ place → ⊥) → slice_get joins k ≡ Some t → reaches range t ≡ false
unreached joins range place s one k t other at = ap is_some (one.alone k t at other)

-- one join of its rank
pub one_reached_in_rank : OneReachedInRank
one_reached_in_rank joins range place s one reached_it =
    let r = slice_index (ranks_of joins) place in
    let around = picked_around (λ t. reaches range t ≡ false) r (ranks_of joins) joins place s (rank_at joins place s one.stands) one.stands
    (λ k t other beside at. unreached joins range place s one k t other at) in
    ap (filter (reaches range)) around.split
    ∙ filter-append (reaches range) around.before (s ∷ around.after)
    ∙ ap (λ ss. ss ++ filter (reaches range) (s ∷ around.after)) (filter_none (reaches range) around.before around.earlier)
    ∙ cond-true (reaches range s) (s ∷ filter (reaches range) around.after) (filter (reaches range) around.after) reached_it
    ∙ ap (λ ss. s ∷ ss) (filter_none (reaches range) around.after around.later)

-- none of the others
pub none_reached_in_others : NoneReachedInOthers
none_reached_in_others joins range place r s one other =
    filter_none (reaches range) (of_rank r joins)
    (all_picked (λ t. reaches range t ≡ false) r (ranks_of joins) joins
    (λ k t beside at. unreached joins range place s one k t (λ here. other (get_or_from_slice_get (ranks_of joins) place r 0 (ap (slice_get (ranks_of joins)) (sym here) ∙ beside))) at))

-- no ranks above 7
pub none_above_seven : NoneAboveSeven
none_above_seven h r entered above = no_joins (of_rank r (joins_of h))
    (all_picked (λ t. ⊥) r (ranks_of (joins_of h)) (joins_of h)
    (λ k t beside at. let few = all_at (λ n. n ≤ 7) (ranks_of (joins_of h)) k r (entered_is_admissible_lem h entered.entered).shallow beside in absurd (omega arith)))
  where
    no_joins : (joins : List DeclaredJoin) → AllByRecursion (λ t. ⊥) joins → joins ≡ []
    no_joins [] all = refl
    no_joins (s ∷ joins) all = absurd all.0
