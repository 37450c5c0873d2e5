use Rattle.std.proofs.Common.{◌≡◌, List, map, IfOk, sym, subst}
use Rattle.semantics.specs.Histories.{DeclaredJoin}
use Rattle.join_eval.proofs.MovesLemmas.{moves_refl}
use Rattle.base_reader.specs.Hiding.{HidesNoValue, without_hidden}
use Rattle.base_reader.proofs.lowest.visible_changes.Goals as goal

pub hide_values-requires : goal.hide_values-requires
hide_values-requires g c = subst (λ (joins : List DeclaredJoin). HidesNoValue joins c.args.range.now c.args.changes.items) (sym c.in-Some.ensures.standing) c.requires.bare

pub hide_values-requires-2 : goal.hide_values-requires-2
hide_values-requires-2 g c = subst (λ (joins : List DeclaredJoin). HidesNoValue joins c.args.range.now c.args.changes.items) (sym c.in_ok-joins.ensures.joins.standing) c.requires.bare

pub returns-in-Some-clause-visible : goal.returns-in-Some-clause-visible
returns-in-Some-clause-visible g c =
    subst (λ (joins : List DeclaredJoin). IfOk c.hide_values.result (λ left. left.items ≡ map (without_hidden joins) c.args.changes.items)) c.in-Some.ensures.standing c.hide_values.ensures

pub returns-in-Some-clause-moves : goal.returns-in-Some-clause-moves
returns-in-Some-clause-moves g c = moves_refl g.S.BaseSource.list g.S.BaseSource.floor g.S.BaseSource.went c.args.source.now (g.met.S.BaseSource.went_refl c.args.source.now)

pub returns-clause-visible : goal.returns-clause-visible
returns-clause-visible g c =
    subst (λ (joins : List DeclaredJoin). IfOk c.hide_values-2.result (λ left. left.items ≡ map (without_hidden joins) c.args.changes.items)) c.in_ok-joins.ensures.joins.standing c.hide_values-2.ensures
