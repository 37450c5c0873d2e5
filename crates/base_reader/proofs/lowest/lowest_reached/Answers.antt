use Rattle.std.proofs.Common.{◌≡◌, List, map, IfOk, subst}
use Rattle.semantics.specs.Histories.{DeclaredJoin}
use Rattle.layering.specs.Reached.{reached}
use Rattle.join_eval.proofs.MovesLemmas.{moves_refl}
use Rattle.base_reader.proofs.lowest.lowest_reached.Goals as goal

pub returns-in-Some-clause-reached : goal.returns-in-Some-clause-reached
returns-in-Some-clause-reached g c =
    subst (λ (joins : List DeclaredJoin). IfOk c.reached_in.result (λ ats. ats.items ≡ map (λ s. s.position) (reached c.args.range.now c.args.rank joins))) c.in-Some.ensures.standing c.reached_in.ensures

pub returns-in-Some-clause-moves : goal.returns-in-Some-clause-moves
returns-in-Some-clause-moves g c = moves_refl g.S.BaseSource.list g.S.BaseSource.floor g.S.BaseSource.went c.args.source.now (g.met.S.BaseSource.went_refl c.args.source.now)

pub returns-clause-reached : goal.returns-clause-reached
returns-clause-reached g c =
    subst (λ (joins : List DeclaredJoin). IfOk c.reached_in-2.result (λ ats. ats.items ≡ map (λ s. s.position) (reached c.args.range.now c.args.rank joins))) c.in_ok-joins.ensures.joins.standing c.reached_in-2.ensures
