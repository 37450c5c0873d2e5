-- A trial of a kept range begins.
use Rattle.std.proofs.Common.{◌≡◌, ℕ, ◌≤◌, List, length, take, slice_get, slice_index, Some, option_map, refl, sym, ap, ◌∙◌, subst, arith}
use Rattle.semantics.specs.Texts.{Range}
use Rattle.semantics.specs.Joins.{Join}
use Rattle.semantics.specs.Histories.{History, DeclaredJoin, joins_of}
use Rattle.semantics.specs.States.{ranks_of}
use Rattle.growing_history.specs.Entered.{HasEntered, HasRank}
use Rattle.growing_history.proofs.EnteredLemmas.{rank_of_place}
use Rattle.layering.specs.StandingLaws.{SameJoinsSince}
use Rattle.join_set.specs.Sets.{Joins, AreJoins}
use Rattle.kept_ranges.specs.Sound.{KeptRange}
use Rattle.range_state.specs.Held.{forgotten}
use Rattle.range_trials.specs.Tried.{IsTried}

-- a kept range of a join of a history with nothing kept, whose rank is the join's, is tried from the last declaration or drop on
pub tried_start : SameJoinsSince → (floor : ℕ) (h read : History) (joins : Joins) (j : Join) (place rank n : ℕ) (range : Range) (s : KeptRange) → read ≡ h → HasEntered read → AreJoins floor joins h → n ≡ length h →
    option_map (λ t. t.join) (slice_get joins.standing place) ≡ Some j → rank ≡ slice_index (ranks_of joins.standing) place → rank ≤ 7 → s ≡ forgotten j rank range → IsTried read joins.changed n s
tried_start stay floor h read joins j place rank n range s same entered are long is ranked small fresh =
    subst (λ (v : KeptRange). IsTried read joins.changed n v) (sym fresh) (record {
      entered = entered;
      long = let e = ap length same in omega arith;
      ranked = omega arith;
      stands = λ p from to.
          subst (λ (js : List DeclaredJoin). HasRank js j rank)
          (are.standing ∙ sym (stay h p (subst (λ c. c ≤ p) are.changed from)) ∙ sym (ap (λ (es : History). joins_of (take p es)) same))
          (rank_of_place joins.standing j place rank _ refl is ranked);
      sound = tt;
    })
