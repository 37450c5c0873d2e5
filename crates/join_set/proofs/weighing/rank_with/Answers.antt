use Rattle.std.proofs.Common.{◌≡◌, ℕ, ◌+◌, ◌≤◌, ◌∙◌, List, length, All, sym, subst}
use Rattle.semantics.specs.Graphs.{IsLeastCycle, ranks}
use Rattle.rank_order.specs.declared.answer.Ranked.{Ranked}
use Rattle.rank_order.specs.Answers.{IsRanks, IfRanks, IfCycle}
use Rattle.join_set.proofs.RankLemmas.{ends_of_reading, cycles_of_reading, IsRankedWith-from, cycle_below, cause_of_cycle}
use Rattle.join_set.proofs.weighing.rank_with.Goals as goal

pub ranks-requires-clause-ends : goal.ranks-requires-clause-ends
ranks-requires-clause-ends c =
    ends_of_reading c.args.joins.now c.args.at c.args.join.now c.as_slice.result.now (c.as_slice.ensures.value ∙ c.in_ok-edges.ensures c.args.at)

pub ranks-requires-clause-cycles : goal.ranks-requires-clause-cycles
ranks-requires-clause-cycles c =
    cycles_of_reading c.args.joins.now c.args.at c.args.join.now c.as_slice.result.now c.requires.acyclic (c.as_slice.ensures.value ∙ c.in_ok-edges.ensures c.args.at)

pub returns-in-Ranks-clause-ok : goal.returns-in-Ranks-clause-ok
returns-in-Ranks-clause-ok c =
    let acyclic = c.in_ok-ranks.ensures.acyclic.0 (subst (λ (r : Ranked). IsRanks r) (sym c.in-Ranks.is) tt) in
    let found = subst (λ (r : Ranked). IfRanks r (λ rs. rs ≡ ranks (length c.args.joins.now + 1) c.as_slice.result.now)) c.in-Ranks.is c.in_ok-ranks.ensures.ranks in
    IsRankedWith-from c.args.joins.now c.args.at c.args.join.now c.as_slice.result.now c.in-Ranks.ranks.items (c.as_slice.ensures.value ∙ c.in_ok-edges.ensures c.args.at) acyclic found

pub positions-requires : goal.positions-requires
positions-requires c =
    let shown = subst (λ (r : Ranked). IfCycle r (IsLeastCycle c.as_slice.result.now (length c.args.joins.now))) c.in-Cycle.is c.in_ok-ranks.ensures.cycle in
    let low = cycle_below c.args.joins.now c.args.at c.args.join.now c.as_slice.result.now c.in-Cycle.cycle.items (c.as_slice.ensures.value ∙ c.in_ok-edges.ensures c.args.at) shown in
    subst (λ (ns : List ℕ). All (λ number. number ≤ length c.args.joins.now) ns) (sym c.as_slice-in-Cycle.ensures.value) low

pub returns-clause-err : goal.returns-clause-err
returns-clause-err c =
    let shown = subst (λ (r : Ranked). IfCycle r (IsLeastCycle c.as_slice.result.now (length c.args.joins.now))) c.in-Cycle.is c.in_ok-ranks.ensures.cycle in
    let here = subst (λ (ns : List ℕ). IsLeastCycle c.as_slice.result.now (length c.args.joins.now) ns) (sym c.as_slice-in-Cycle.ensures.value) shown in
    cause_of_cycle c.args.joins.now c.args.at c.args.join.now c.as_slice.result.now c.as_slice-in-Cycle.result.now c.in_ok-positions-in-Cycle.field-0 (c.as_slice.ensures.value ∙ c.in_ok-edges.ensures c.args.at) here
    (c.in_ok-positions-in-Cycle.ensures c.args.join.now)
