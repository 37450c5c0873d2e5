use Rattle.std.proofs.Common.{◌<◌, ◌∙◌, ap, length, get_or, arith}
use Rattle.semantics.specs.States.{ranks_of}
use Rattle.std.proofs.lemmas.List.{get_or_read}
use Rattle.join_set.specs.Sets.{Joins}
use Rattle.join_set.proofs.RankLemmas.{length-ranks, rank_low}
use Rattle.join_set.proofs.set.JoinSet.rank.Goals as goal

pub index-requires : goal.index-requires
index-requires c =
    omega (arith, length-ranks c.self.inside.joins.items c.self.inside.ranks.items c.self.invariant.ranked, ap (λ (s : Joins). length s.standing) c.self.view_is, c.self.inside.ranks.ok.0)

pub overflow_cast-result : goal.overflow_cast-result
overflow_cast-result c =
    let low = rank_low c.self.inside.joins.items c.self.inside.ranks.items c.args.i c.index.result.now c.self.invariant.ranked (omega (arith, ap (λ (s : Joins). length s.standing) c.self.view_is)) in
    omega (arith, low, c.index.ensures)

pub returns-clause-exact : goal.returns-clause-exact
returns-clause-exact c =
    let long = length-ranks c.self.inside.joins.items c.self.inside.ranks.items c.self.invariant.ranked in
    let within : c.args.i < length c.self.inside.ranks.items = omega (arith, ap (λ (s : Joins). length s.standing) c.self.view_is) in
    get_or_read c.self.inside.ranks.items c.args.i c.index.result.now within c.index.ensures 0
    ∙ ap (λ rs. get_or rs c.args.i 0) (c.self.invariant.ranked.exact ∙ ap (λ (s : Joins). ranks_of s.standing) c.self.view_is)

pub returns-clause-shallow : goal.returns-clause-shallow
returns-clause-shallow c =
    let low = rank_low c.self.inside.joins.items c.self.inside.ranks.items c.args.i c.index.result.now c.self.invariant.ranked (omega (arith, ap (λ (s : Joins). length s.standing) c.self.view_is)) in
    omega (arith, low, c.index.ensures)
