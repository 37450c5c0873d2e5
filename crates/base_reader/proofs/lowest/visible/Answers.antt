use Rattle.std.proofs.Common.{◌≡◌, List, not, IfOk, sym, subst}
use Rattle.semantics.specs.Texts.{pairs_where}
use Rattle.semantics.specs.Histories.{DeclaredJoin, is_computed}
use Rattle.join_eval.proofs.MovesLemmas.{moves_refl}
use Rattle.base_reader.specs.Hiding.{HidesNoPair}
use Rattle.base_reader.proofs.lowest.visible.Goals as goal

pub hide_computed-requires : goal.hide_computed-requires
hide_computed-requires g c = subst (λ (joins : List DeclaredJoin). HidesNoPair joins c.args.range.now c.args.pairs.items) (sym c.in-Some.ensures.standing) c.requires.bare

pub hide_computed-requires-2 : goal.hide_computed-requires-2
hide_computed-requires-2 g c = subst (λ (joins : List DeclaredJoin). HidesNoPair joins c.args.range.now c.args.pairs.items) (sym c.in_ok-joins.ensures.joins.standing) c.requires.bare

pub returns-in-Some-clause-visible : goal.returns-in-Some-clause-visible
returns-in-Some-clause-visible g c =
    subst (λ (joins : List DeclaredJoin). IfOk c.hide_computed.result (λ left. left.items ≡ pairs_where (λ key. not (is_computed joins key)) c.args.pairs.items)) c.in-Some.ensures.standing c.hide_computed.ensures

pub returns-in-Some-clause-moves : goal.returns-in-Some-clause-moves
returns-in-Some-clause-moves g c = moves_refl g.S.BaseSource.list g.S.BaseSource.floor g.S.BaseSource.went c.args.source.now (g.met.S.BaseSource.went_refl c.args.source.now)

pub returns-clause-visible : goal.returns-clause-visible
returns-clause-visible g c =
    subst (λ (joins : List DeclaredJoin). IfOk c.hide_computed-2.result (λ left. left.items ≡ pairs_where (λ key. not (is_computed joins key)) c.args.pairs.items)) c.in_ok-joins.ensures.joins.standing c.hide_computed-2.ensures
